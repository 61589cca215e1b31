-- What a turn's effect tells before it is written. Assumes nothing.
use Prim.Native.Nat.{ℕ}
use mathlib.Core.Path.{◌≡◌, refl, sym, ap}
use Rattle.std.specs.Prelude.{Ok, Err}
use mathlib.Core.Bool.{Bool, true, false, not, ◌&&◌}
use mathlib.Core.List.{List}
use borrow.Author.Tests.{eqb-true}
use Rattle.words.specs.declared.decline.Decline.{Decline}
use Rattle.words.specs.Decline.{Verdict, accepted_of}
use Rattle.words.proofs.PickLaws.{never_true}
use Rattle.words.proofs.Numbers.{numbers}
use Rattle.flash.specs.Write.{no_write}
use Rattle.geometry.specs.declared.banks.Geometry.{Geometry}
use Rattle.geometry.specs.Banks.{bank_words_of}
use Rattle.device.specs.Record.{running}
use Rattle.update.specs.Answers.{TurnEffect, turn_effect_from}
use Rattle.update.specs.Turn.{Turning, effected_of}
use Rattle.row_signs.specs.declared.sign.Sign.{Sign}
use Rattle.row_turn.specs.SignTurn.{sign_state_of, sign_turn_of, look_in, look_of, put_write_of, sign_turning, sign_turning_in, sign_turning_of, Lies}
use Rattle.row_turn.proofs.PartLaws.{none_written}

not_and : (t : Bool) → (not t && t) ≡ false
not_and true = refl
not_and false = refl

pub looked : (g : Geometry) (store image sram : List ℕ) (s : Sign) (e : TurnEffect)
    → effected_of (sign_state_of g store s) e ≡ sign_turn_of g store image sram s
    → (can : Bool) → can ≡ (accepted_of e.turned.decline && not e.turned.done)
    → (sets : Bool) → sets ≡ (not (running s.device) && running e.turned.device)
    → record { can = can; sets = sets } ≡ look_of g store image sram s
unfolding look_of
looked g store image sram s e h can ec sets es = rw (ec, es) (ap (λ (t : Turning). look_in s t) h)

-- and once it is written
pub served : (g : Geometry) (store image sram : List ℕ) (s : Sign) (e : TurnEffect)
    → effected_of (sign_state_of g store s) e ≡ sign_turn_of g store image sram s
    → (words : ℕ) → words ≡ bank_words_of g → (after : List ℕ) → after ≡ put_write_of store s.one s.two words e.write
    → sign_turning (record {
      sign = record { device = e.turned.device; place = e.turned.place; one = s.one; two = s.two };
      event = e.turned.event;
    }) after ≡ sign_turning_of g store image sram s
unfolding sign_turning_of
served g store image sram s e h words ew after ea = rw (ea, ew) (ap (λ (t : Turning). sign_turning_in store s t) h)

-- a verdict that declines does not accept
err_declines : (e : Decline) → accepted_of (Err e) ≡ false
err_declines e = never_true (accepted_of (Err e)) (λ h. let same : ◌≡◌ {A = Verdict} (Err e) (Ok tt) = numbers.one (Err e) (Ok tt) (eqb-true _ _ h) in cc)

-- where the turn is declined there is nothing to look for, and everything stays as it is
module _ (g : Geometry) (store image sram : List ℕ) (s : Sign) (e : Decline)
    (h : effected_of (sign_state_of g store s) (turn_effect_from s.device s.place (Err e)) ≡ sign_turn_of g store image sram s) where
  pub declined_look : record { can = false; sets = false } ≡ look_of g store image sram s
  declined_look =
      looked g store image sram s (turn_effect_from s.device s.place (Err e)) h
      false (rw (err_declines e) refl) false (sym (not_and (running s.device)))

  pub declined_serve : Lies g store s → sign_turning (record { sign = s; event = false }) store ≡ sign_turning_of g store image sram s
  declined_serve lies =
      served g store image sram s (turn_effect_from s.device s.place (Err e)) h (bank_words_of g) refl store
      (none_written store s.one s.two (bank_words_of g) lies.first lies.other no_write refl)
