-- No sign sets WR twice while one and the same other sign that can be served waits. Assumes nothing.
use mathlib.Core.Path.{◌≡◌, refl, sym, ◌∙◌, subst}
use mathlib.Core.Bool.{Bool, true, false}
use mathlib.Core.List.{List, ◌++◌}
use mathlib.Core.Logic.{◌⊎◌, inl, inr}
use Prim.Native.Nat.{ℕ, suc, ◌+◌, ◌-◌, ◌≤◌, ◌<◌}
use native.Mathlib.Decide.{dec_lt, le_ind}
use native.Mathlib.Omega.{arith}
use lib.ListN.{length, get_or, length-append, get_or-append}
use Rattle.words.specs.Lists.{In}
use Rattle.row_signs.specs.Signs.{left_of, waits_of}
use Rattle.row_choice.specs.Choice.{Known, records_of, ready_of, from_queue_of, begins_of, served_of, waiters_of}
use Rattle.row_choice.proofs.PlaceLaws.{after_seam, place_of, left_one_fewer, left_at}
use Rattle.row_choice.proofs.WaitsLaws.{waits_in_lem, in_waits, not_waits}
use Rattle.row_choice.proofs.ServedLaws.{from_queue, nobody_leaves, ready_before, queue_serves, served_sets_room}
use Rattle.row_choice.proofs.SoundLaws.{Sound, begins_new, joins_begins, served_gone}

-- wherever x is in the queue, y is before it
Behind : List ℕ → ℕ → ℕ → Type 0
Behind l x y = (p q : ℕ) → p < length l → get_or l p 0 ≡ x → q < length l → get_or l q 0 ≡ y → q < p

-- ---- the order of those that stay

-- one leaves
left_behind : (l : List ℕ) (x y i : ℕ) → i < length l → Behind l x y → Behind (left_of l i) x y
unfolding Behind
left_behind l x y i inside behind p q a e b f =
    let longer = left_one_fewer l i inside in
    omega (
      arith,
      behind (place_of i p) (place_of i q) (omega (arith, longer)) (sym (left_at l i inside p) ∙ e) (omega (arith, longer)) (sym (left_at l i inside q) ∙ f),
    )

-- others join: y doesn't, for it waits
joined_behind : (l m : List ℕ) (x y : ℕ) → ((q : ℕ) → q < length m → get_or m q 0 ≡ y → ⊥) → Behind l x y → Behind (l ++ m) x y
unfolding Behind
joined_behind l m x y other behind p q a e b f = go (dec_lt q (length l)) (dec_lt p (length l))
  where
    longer : length (l ++ m) ≡ length l + length m
    longer = length-append l m

    go : Dec (q < length l) → Dec (p < length l) → q < p
    go (no after) either = absurd (other (q - length l) (omega (arith, longer)) (sym (after_seam l m q (omega arith)) ∙ f))
    go (yes before) (no after) = omega arith
    go (yes before) (yes first) = behind p q first (sym (get_or-append l m 0 p first) ∙ e) before (sym (get_or-append l m 0 q before) ∙ f)

-- a call that is carried out
call_behind : (r : Known) (x y : ℕ) → waits_of r.waiting y ≡ true → Behind r.waiting x y → Behind (waiters_of r) x y
call_behind r x y waits behind = go (from_queue_of r) refl
  where
    go : (t : Bool) → from_queue_of r ≡ t → Behind (waiters_of r) x y
    go true e = let q = from_queue r e in subst (λ (l : List ℕ). Behind l x y) (sym q.left) (left_behind r.waiting x y (ready_of r) q.ready behind)
    go false e =
        subst (λ (l : List ℕ). Behind l x y) (sym (nobody_leaves r e))
        (joined_behind r.waiting (records_of (begins_of r) r.n) x y new behind)
      where
        w : In r.waiting y
        w = waits_in_lem r.waiting y waits

        new : (q : ℕ) → q < length (records_of (begins_of r) r.n) → get_or (records_of (begins_of r) r.n) q 0 ≡ y → ⊥
        new q inside f =
            let begins = joins_begins r y (record { at = q; inside = inside; is = f }) in
            not_waits r.waiting y w.at (begins_new r y begins) w.inside w.is

-- ---- the one that is served

-- it waits no more, so it is behind each that waits
served_behind : (r : Known) (x y : ℕ) → Sound r.waiting r.n → x < r.n → served_of r ≡ x → Behind (waiters_of r) x y
unfolding Behind
served_behind r x y s inside e p q a f b g = absurd (served_gone r s (rw e inside) (in_waits (waiters_of r) (served_of r) p a (f ∙ sym e)))

-- where it sets WR and y waits that can be served, it comes from the queue and isn't behind y
not_behind : (r : Known) (x y : ℕ) → x < r.n → served_of r ≡ x → r.sets x ≡ true
    → waits_of r.waiting y ≡ true → r.can y ≡ true → Behind r.waiting x y → ⊥
unfolding Behind
not_behind r x y inside e sets waits can behind =
    let w = waits_in_lem r.waiting y waits in
    let from = queue_serves r w.at (served_sets_room r (rw e inside) (rw e sets)) w.inside (rw w.is can) in
    omega (arith, behind (ready_of r) w.at from.ready (sym from.served ∙ e) w.inside w.is, ready_before r w.at (rw w.is can))

-- ---- over calls that each get what the last left: r i is what is known at call i; one is carried out, or declined and changes nothing

-- x is served at call a, so it waits no more; y waits all the time, so x is behind it from then on
stays_behind : (r : ℕ → Known) (a b : ℕ) → a < b
    → ((i : ℕ) → a ≤ i → i < b → ((r (suc i)).waiting ≡ waiters_of (r i)) ⊎ ((r (suc i)).waiting ≡ (r i).waiting))
    → (x y : ℕ) → Behind (r (suc a)).waiting x y
    → ((i : ℕ) → a ≤ i → i ≤ b → waits_of (r i).waiting y ≡ true) → Behind (r b).waiting x y
stays_behind r a b later calls x y first waits =
    le_ind {n = suc a} (λ i. i ≤ b → Behind (r i).waiting x y) (λ l. first)
    (λ i up earlier l. go i up l (calls i (omega arith) (omega arith)) (earlier (omega arith))) b later (omega arith)
  where
    go : (i : ℕ) → a < i → i < b → ((r (suc i)).waiting ≡ waiters_of (r i)) ⊎ ((r (suc i)).waiting ≡ (r i).waiting) → Behind (r i).waiting x y
        → Behind (r (suc i)).waiting x y
    go i up l (inl done) behind =
        subst (λ (l : List ℕ). Behind l x y) (sym done) (call_behind (r i) x y (waits i (omega arith) (omega arith)) behind)
    go i up l (inr declined) behind = subst (λ (l : List ℕ). Behind l x y) (sym declined) behind

-- "no sign sets WR twice while one and the same other sign, unfinished and with a turn that isn't declined, waits": where call a serves x, and y waits from
-- then on and can be served at call b, call b does not serve x by a turn that sets WR
pub fair : (r : ℕ → Known) (n a b : ℕ) → a < b → ((i : ℕ) → (r i).n ≡ n) → Sound (r a).waiting n
    → ((i : ℕ) → a ≤ i → i < b → ((r (suc i)).waiting ≡ waiters_of (r i)) ⊎ ((r (suc i)).waiting ≡ (r i).waiting))
    → (r (suc a)).waiting ≡ waiters_of (r a)
    → (x y : ℕ) → x < n → served_of (r a) ≡ x → served_of (r b) ≡ x → (r b).sets x ≡ true
    → ((i : ℕ) → a ≤ i → i ≤ b → waits_of (r i).waiting y ≡ true) → (r b).can y ≡ true → ⊥
fair r n a b later rows s calls carried x y inside e f again waits can =
    let first : Behind (waiters_of (r a)) x y = served_behind (r a) x y (rw (rows a) s) (rw (rows a) inside) e in
    not_behind (r b) x y (rw (rows b) inside) f again (waits b (omega arith) (omega arith)) can
    (stays_behind r a b later calls x y (rw carried first) waits)
