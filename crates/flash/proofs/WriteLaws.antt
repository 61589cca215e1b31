-- What is written replaces words of a bank, so both banks keep their lengths. Assumes nothing.
use mathlib.Core.Path.{◌≡◌, refl}
use mathlib.Core.Bool.{Bool, true, false}
use mathlib.Core.List.{List}
use Prim.Native.Nat.{ℕ}
use lib.ListN.{length}
use Rattle.words.proofs.PickLaws.{pick_both}
use Rattle.words.proofs.QuadLaws.{put_length}
use Rattle.device.specs.declared.record.Device.{Device}
use Rattle.device.specs.State.{State, bank_of}
use Rattle.flash.specs.Write.{Write, written_of}

pub written_length : (s : State) (d : Device) (w : Write) (second : Bool) → length (bank_of (written_of s d w) second) ≡ length (bank_of s second)
written_length s d w true = pick_both P w.writes (pick_both P w.second (put_length s.two w.quad w.words) refl) refl
  where
    P : List ℕ → Type 0
    P bank = length bank ≡ length s.two
written_length s d w false = pick_both P w.writes (pick_both P w.second refl (put_length s.one w.quad w.words)) refl
  where
    P : List ℕ → Type 0
    P bank = length bank ≡ length s.one
