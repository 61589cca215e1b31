-- What an accepted call tells: the start is accepted, and the buffer holds the script.
-- Assumes nothing.
use mathlib.Core.Path.{◌≡◌, refl, sym, ap, ◌∙◌}
use Rattle.std.specs.Prelude.{Ok, Err}
use mathlib.Core.Bool.{true}
use mathlib.Core.List.{List}
use Prim.Native.Nat.{ℕ, ◌≤◌}
use lib.ListN.{length}
use borrow.Author.Tests.{leb-true}
use Rattle.words.specs.declared.decline.Decline.{Decline}
use Rattle.words.specs.Decline.{Verdict, accepted_of}
use Rattle.words.proofs.DeclineLaws.{held, neither}
use Rattle.geometry.specs.declared.banks.Geometry.{Geometry}
use Rattle.geometry.specs.Banks.{InRange, bank_words_of}
use Rattle.geometry.proofs.SizeLaws.{in-range}
use Rattle.device.specs.State.{State}
use Rattle.update.specs.Actions.{total_of}
use Rattle.update.specs.Start.{start_of}
use Rattle.update.proofs.StartLaws.{starts}
use Rattle.script_write.specs.Script.{script_bytes_of, write_script_decline_of}

-- what a start that is accepted tells of the sizes
pub record Sized (g : Geometry) (s : State) (image : List ℕ) : Type 0 where
  pub range : InRange g
  pub first : length s.one ≡ bank_words_of g
  pub other : length s.two ≡ bank_words_of g
  pub long : length image ≡ bank_words_of g

sized : (g : Geometry) (s : State) (image : List ℕ) → accepted_of (start_of g s image).decline ≡ true → Sized g s image
sized g s image h =
    let started = starts g s image h in
    record { range = in-range g started.listed; first = started.sound.first; other = started.sound.other; long = started.image_long }

pub start_total : (g : Geometry) (s : State) (image : List ℕ) → accepted_of (start_of g s image).decline ≡ true → (start_of g s image).total ≡ total_of g
unfolding start_of
start_total g s image h = rw h

pub record Holds (g : Geometry) (s : State) (image : List ℕ) (buffer : ℕ) : Type 0 where
  pub sizes : Sized g s image
  pub room : script_bytes_of g ≤ buffer

pub holds : (g : Geometry) (s : State) (image : List ℕ) (buffer : ℕ) → accepted_of (write_script_decline_of g s image buffer) ≡ true → Holds g s image buffer
unfolding write_script_decline_of
holds g s image buffer h =
    let (opened, fits) = neither (start_of g s image).decline _ h in
    record { sizes = sized g s image opened; room = leb-true _ _ (held _ (Ok tt) (Err Decline.ScriptBuffer) refl fits).0 }

-- so where a function goes on with what they answer
pub went_holds : {g : Geometry} {s : State} {image : List ℕ} {buffer : ℕ} {r : Verdict} → r ≡ write_script_decline_of g s image buffer → r ≡ Ok tt
    → Holds g s image buffer
went_holds e w = holds _ _ _ _ (ap accepted_of (sym e ∙ w))
