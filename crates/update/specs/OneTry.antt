-- W-212 contains demand 3: what `Claims` says of run A and of a cut of run B is what `Tries` says of a list with one try of turns alone.
-- Assumes nothing.
use Rattle.std.specs.Prelude.{ℕ, ◌≡◌, true, not, List, [], ◌⊎◌}
use Rattle.words.specs.Decline.{accepted_of}
use Rattle.geometry.specs.declared.banks.Geometry.{Geometry}
use Rattle.device.specs.State.{State, bank_of}
use Rattle.update.specs.Actions.{total_of}
use Rattle.update.specs.PowerFail.{after_turns, place_after, Cut, reset_by, restarted, old, Lower, Runs, new_bank_of, SameBanks, Update}
use Rattle.update.specs.Moves.{turn_moves}
use Rattle.update.specs.Moves.End.{whole}
use Rattle.update.specs.Tries.{Try}

-- a list of turns and its cut, and nothing after it but the completed start-up
abbrev pub one_try : List (List ℕ) → Cut → Try
one_try B c = record { moves = turn_moves B; end = whole; cut = c; later = [] }

pub record OneTry (g : Geometry) (s : State) (image : List ℕ) : Type 0 where
  -- `new_left` and `new_runs` of `Claims`
  pub complete : (A : List (List ℕ)) → place_after g s image A ≡ total_of g → (bank_of (after_turns g s image A) (not (old s)) ≡ new_bank_of g s image)
      × ((c : Cut) → accepted_of (reset_by g (after_turns g s image A) c).decline ≡ true
      → Runs (restarted g (after_turns g s image A) c) (not (old s)) (new_bank_of g s image))
  -- `old_or_new`
  pub cut : (A B : List (List ℕ)) → place_after g s image A ≡ total_of g → (c : Cut) → accepted_of (reset_by g (after_turns g s image B) c).decline ≡ true
      → let t = restarted g (after_turns g s image B) c in
      Runs t (old s) (bank_of s (old s)) ⊎ Runs t (not (old s)) (bank_of (after_turns g s image A) (not (old s)))
  -- `again`
  pub again : (A B : List (List ℕ)) → place_after g s image A ≡ total_of g → (c : Cut) → accepted_of (reset_by g (after_turns g s image B) c).decline ≡ true
      → let t = restarted g (after_turns g s image B) c in
      Lower t (old s) → Update g t image
      × ((C : List (List ℕ)) → place_after g t image C ≡ total_of g → SameBanks (after_turns g s image A) (after_turns g t image C))
