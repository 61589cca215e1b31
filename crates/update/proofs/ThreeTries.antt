-- The two cuts are early, so that the sign runs the old bank after each; the third try reaches the total.
-- Assumes nothing.
use mathlib.Core.Path.{◌≡◌, refl, sym, ap, ◌∙◌}
use mathlib.Core.Bool.{true, false}
use mathlib.Core.List.{List, [], ◌∷◌}
use mathlib.Core.Logic.{inl, inr}
use Prim.Native.Nat.{ℕ, zero, suc, ◌≤◌}
use native.Mathlib.Omega.{arith}
use lib.ListN.{length, length-replicate}
use Rattle.words.specs.Decline.{accepted_of}
use Rattle.device.specs.State.{State}
use Rattle.update.specs.Actions.{total_of}
use Rattle.update.specs.PowerFail.{turned_of, Position, at, started_up, reset_by, old, Lower, Runs, new_bank_of, Update}
use Rattle.update.specs.Moves.{moves_of, waits_in, turn_moves}
use Rattle.update.specs.Bench.{smallest}
use Rattle.update.specs.Example.{example_state, example_image, empty_srams}
use Rattle.update.specs.Tries.{Try, fails_at, tried_of, tries_of, Tried, EachTry}
use Rattle.update.specs.ThreeTries.{in_erasing, in_last_step, uncut, ThreeTries}
use Rattle.update.proofs.RunLaws.{turns_place}
use Rattle.update.proofs.Moves.{moves_fail}
use Rattle.update.proofs.Tries.{tries}
use Rattle.update.proofs.Example.{example_update, total_is, empty_short, new_bank_lem}

-- turns alone hold no read
none_wait : (n : ℕ) (p : Position) → waits_in smallest example_image p (turn_moves (empty_srams n)) ≡ false
none_wait zero p = refl
none_wait (suc n) p = none_wait n (turned_of smallest example_image p [])

-- so many turns of an update raise its place as often
raised : (s : State) → Update smallest s example_image → (n : ℕ) → n ≤ total_of smallest
    → (moves_of smallest example_image (at s 0) (turn_moves (empty_srams n))).place ≡ n
raised s update n l =
    let count : length (empty_srams n) ≡ n = length-replicate n [] in
    ap (λ (p : Position). p.place) ((moves_fail smallest example_image).turns_alone (at s 0) (empty_srams n))
    ∙ turns_place smallest s example_image update (empty_srams n) (empty_short n) (omega arith)
    ∙ count

-- what each try is begun from
abbrev first : State
first = started_up smallest (tried_of smallest example_image example_state in_erasing)

abbrev second : State
second = started_up smallest (tried_of smallest example_image first in_last_step)

each : (l : List Try) → Tried smallest example_image (old example_state) example_state l → let u = tries_of smallest example_image example_state l in
    Lower u (old example_state) → (t : Try) → EachTry smallest example_state example_image u t
each l tried lower t = (tries smallest example_image).each example_state example_update l tried lower t

begins : Lower example_state (old example_state)
begins = ((tries smallest example_image).none example_state example_update).0

erasing_ok : accepted_of (reset_by smallest (fails_at smallest example_image example_state in_erasing) in_erasing.cut).decline ≡ true
erasing_ok = (each [] tt begins in_erasing).cuts in_erasing.cut (omega arith) (omega arith)

erasing_old : Lower first (old example_state)
erasing_old =
    (each [] tt begins in_erasing).early (none_wait 20 (at example_state 0)) refl
    (inl (omega (arith, total_is, raised example_state example_update 20 (omega (arith, total_is))))) erasing_ok

one : Tried smallest example_image (old example_state) example_state (in_erasing ∷ [])
one = (begins, erasing_ok, tt)

first_update : Update smallest first example_image
first_update = ((tries smallest example_image).after example_state example_update (in_erasing ∷ []) [] one).next erasing_old

last_ok : accepted_of (reset_by smallest (fails_at smallest example_image first in_last_step) in_last_step.cut).decline ≡ true
last_ok = (each (in_erasing ∷ []) one erasing_old in_last_step).cuts in_last_step.cut (omega arith) (omega arith)

last_old : Lower second (old example_state)
last_old =
    (each (in_erasing ∷ []) one erasing_old in_last_step).early (none_wait 250 (at first 0)) refl
    (inr (omega (arith, total_is, raised first first_update 250 (omega (arith, total_is))), refl)) last_ok

two : Tried smallest example_image (old example_state) example_state (in_erasing ∷ in_last_step ∷ [])
two = (begins, erasing_ok, (erasing_old, last_ok, tt))

second_update : Update smallest second example_image
second_update = ((tries smallest example_image).after example_state example_update (in_erasing ∷ in_last_step ∷ []) [] two).next last_old

uncut_ok : accepted_of (reset_by smallest (fails_at smallest example_image second uncut) uncut.cut).decline ≡ true
uncut_ok = (each (in_erasing ∷ in_last_step ∷ []) two last_old uncut).cuts uncut.cut (omega arith) (omega arith)

ends : Runs (started_up smallest (tried_of smallest example_image second uncut)) true (new_bank_of smallest example_state example_image)
ends =
    (each (in_erasing ∷ in_last_step ∷ []) two last_old uncut).reaches
    (raised second second_update 252 (omega (arith, total_is)) ∙ sym total_is) uncut_ok

pub three_tries : ThreeTries
three_tries =
    record {
      tried = (begins, erasing_ok, (erasing_old, last_ok, (last_old, uncut_ok, tt)));
      ends = (ends.0, ends.1 ∙ new_bank_lem);
    }
