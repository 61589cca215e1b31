-- Over calls that each get what the last left, no sign sets WR twice while one and the same other sign that can be served waits. Assumes nothing.
use Prim.Native.Nat.{ℕ, zero, suc, ◌<◌}
use mathlib.Core.Path.{◌≡◌, refl, sym, ap, ◌∙◌, subst}
use mathlib.Core.Bool.{true}
use mathlib.Core.List.{List}
use mathlib.Core.Logic.{◌⊎◌, inl, inr}
use native.Mathlib.Decide.{ℕ_discrete}
use native.Mathlib.Omega.{arith}
use lib.ListN.{length, get_or-append}
use lib.Seq.{ext_get_or}
use Rattle.words.proofs.BitLaws.{true_not_false}
use Rattle.geometry.specs.declared.banks.Geometry.{Geometry}
use Rattle.device.specs.Record.{running}
use Rattle.row_signs.specs.declared.sign.Sign.{Sign}
use Rattle.row_signs.specs.Signs.{sign_at, waiting_of, queue_of}
use Rattle.row_queue.proofs.QueueLaws.{entries_length}
use Rattle.row_choice.specs.Choice.{waiters_of}
use Rattle.row_choice.proofs.FairLaws.{fair}
use Rattle.row_schedule.proofs.ChoiceLaws.{entry_is}
use Rattle.row_schedule.proofs.WaiterLaws.{judged_sound}
use Rattle.row.specs.Row.{RowState, Call, after_of, row_of}
use Rattle.row.specs.Supply.{SetsWr, Fair}
use Rattle.row.proofs.CallLaws.{known_at, ServingCall, by_cases}
use Rattle.row.proofs.DeclineLaws.{call_judged}
use Rattle.row.proofs.SignLaws.{sign_kept, lengths}
use Rattle.row.proofs.KnownLaws.{can_known, sets_is}
use Rattle.row.proofs.BearLaws.{set_after}

-- the entries of the queue of a list are the list
pub waiting_is : (l : List ℕ) → waiting_of (queue_of l) ≡ l
waiting_is l =
    ext_get_or 0 (waiting_of (queue_of l)) l long
    (λ p inside.
    let below : p < length l = omega (arith, inside, long) in
    entry_is (queue_of l).numbers (length l) p below ∙ get_or-append l _ 0 p below)
  where
    long : length (waiting_of (queue_of l)) ≡ length l
    long = entries_length (queue_of l).numbers (length l)

-- who waits after a call: as the choice has it, or as before where it is declined
waiting_next : (g : Geometry) (r : RowState) (c : Call)
    → (waiting_of (after_of g r c).queue ≡ waiters_of (known_at g r c)) ⊎ (waiting_of (after_of g r c).queue ≡ waiting_of r.queue)
waiting_next g r c =
    by_cases g r c
    (λ d. inr (ap (λ (r : RowState). waiting_of r.queue) d.after))
    (λ i. inl (ap waiting_of i.queue ∙ waiting_is (waiters_of (known_at g r c))))
    (λ x s. inl (ap waiting_of s.queue ∙ waiting_is (waiters_of (known_at g r c))))

-- a call that takes WR of x from 0 to 1 serves x, by a turn that sets WR
record Raises (g : Geometry) (r : RowState) (c : Call) (x : ℕ) : Type 0 where
  serves : ServingCall g r c x
  sets : (known_at g r c).sets x ≡ true

raises : (g : Geometry) (r : RowState) (c : Call) (x : ℕ) → SetsWr g r c x → Raises g r c x
raises g r c x w =
    by_cases g r c
    (λ d. same (ap (λ (r : RowState). sign_at r.signs x) d.after))
    (λ i. same (ap (λ (l : List Sign). sign_at l x) i.signs))
    (λ y s. go y s (ℕ_discrete x y))
  where
    same : {A : Type 0} → sign_at (after_of g r c).signs x ≡ sign_at r.signs x → A
    same e = true_not_false (sym w.after ∙ ap (λ (sign : Sign). running sign.device) e ∙ w.before)

    go : (y : ℕ) → ServingCall g r c y → Dec (x ≡ y) → Raises g r c x
    go y s (no other) = same (sign_kept g r c y s x other)
    go y s (yes e) =
        let t : ServingCall g r c x = subst (ServingCall g r c) (sym e) s in
        record { serves = t; sets = sets_is g r c x ∙ rw w.before (sym (set_after g r c x t) ∙ w.after) }

-- the list keeps its length
pub row_length : (g : Geometry) (r : RowState) (calls : ℕ → Call) (i : ℕ) → length (row_of g r calls i).signs ≡ length r.signs
row_length g r calls zero = refl
row_length g r calls (suc i) = (lengths g (row_of g r calls i) (calls i)).0 ∙ row_length g r calls i

pub fair_calls : (g : Geometry) (r : RowState) (calls : ℕ → Call) → Fair g r calls
fair_calls g r calls a b x y later first again waits can =
    let ra = row_of g r calls a in
    let one = raises g ra (calls a) x first in
    let two = raises g (row_of g r calls b) (calls b) x again in
    let judged = call_judged g ra (calls a) one.serves.accepted in
    fair (λ i. known_at g (row_of g r calls i) (calls i)) (length r.signs) a b later (row_length g r calls)
    (rw (← row_length g r calls a) (judged_sound ra.queue (length ra.signs) judged.entry_below judged.entries_differ))
    (λ i from to. waiting_next g (row_of g r calls i) (calls i))
    (ap waiting_of one.serves.queue ∙ waiting_is (waiters_of (known_at g ra (calls a))))
    x y (rw (← row_length g r calls a) first.listed)
    one.serves.chosen two.serves.chosen two.sets waits (can_known g (row_of g r calls b) (calls b) y can)
