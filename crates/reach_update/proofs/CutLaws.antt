-- The same cut of both updates: it tears the same quad with the same bits but for word i, which is none of the sequence quad, so the
-- comparison is the same and the same bank runs.
-- Assumes nothing.
use mathlib.Core.Path.{◌≡◌, refl, sym, subst, ap, ◌∙◌}
use mathlib.Core.Bool.{Bool, true, false, not}
use mathlib.Core.List.{List}
use Prim.Native.Nat.{ℕ, ◌/◌, ◌%◌}
use native.Mathlib.Omega.{arith}
use lib.ListN.{length}
use borrow.Author.Tests.{ne_eqb}
use Rattle.words.specs.Quad.{word_at}
use Rattle.words.specs.Decline.{accepted_of}
use Rattle.geometry.specs.declared.banks.Geometry.{Geometry}
use Rattle.sequence.specs.Sequence.{sequence_quad_of, sequence_index_of}
use Rattle.sequence.specs.Comparison.{Comparison}
use Rattle.device.specs.declared.record.Device.{Device}
use Rattle.device.specs.Record.{running}
use Rattle.device.specs.State.{State, After, bank_of}
use Rattle.common_declines.specs.Possible.{possible_of}
use Rattle.flash.specs.Effect.{effect_of}
use Rattle.start_up.specs.StartUp.{start_up_of}
use Rattle.resets.specs.Reset.{reset_decline_of, comparison_of, compared_of, reset_con_of, reset_device_of, tear_of, restart_of, reset_answer_of, Explained}
use Rattle.resets.specs.Reset.{explained_of}
use Rattle.controller.specs.Controller.{Sound}
use Rattle.controller.proofs.WriteLaws.{by_reset}
use Rattle.update.specs.PowerFail.{at, Cut, reset_by, restarted, old, Update}
use Rattle.update.proofs.PlacedLaws.{placed}
use Rattle.update.proofs.RestartLaws.{reset_fresh}
use Rattle.update.proofs.CutLaws.{carried, idle_tear, running_tear}
use Rattle.update.proofs.PhaseLaws.{action_at}
use Rattle.reach_update.specs.Near.{SameBut, NearDevice, NearState}
use Rattle.reach_update.proofs.SameButLaws.{merge_near}
use Rattle.reach_update.proofs.DeviceLaws.{pick_two, reset_near, start-up-decline, start_up_near}
use Rattle.reach_update.proofs.PairLaws.{listed, few, near_placed, near_devices, near_banks, quad_p, quad_q, words_p, words_q}
use Rattle.reach_update.proofs.PairLaws.{writes_p, writes_q, same_quad, same-words}
use Rattle.reach_update.proofs.TurnLaws.{first, second, Pair}
use Rattle.reach_update.proofs.LiveLaws.{Differs}
use Rattle.reach_update.proofs.MoveLaws.{Together, together, running_same, common_same}

-- the comparison looks at the sequence words alone
comparison_same : (g : Geometry) (b : Bool) (i : ℕ) → (i / 4 ≡ sequence_quad_of g → ⊥) → (t r : State) → NearState b i t r
    → comparison_of g t.one t.two ≡ comparison_of g r.one r.two
comparison_same g b i outside t r near = go b near.old_bank near.new_bank_lem
  where
    ne : sequence_index_of g ≡ i → ⊥
    ne e = outside (omega arith)

    go : (b : Bool) → bank_of t b ≡ bank_of r b → SameBut i (bank_of t (not b)) (bank_of r (not b))
        → comparison_of g t.one t.two ≡ comparison_of g r.one r.two
    go true kept new = rw (kept, new.same (sequence_index_of g) ne)
    go false kept new = rw (kept, new.same (sequence_index_of g) ne)

-- a reset of what the tear leaves
restart_near : (g : Geometry) (b : Bool) (i : ℕ) → (i / 4 ≡ sequence_quad_of g → ⊥) → (t r : State) → NearState b i t r → (kind : ℕ)
    → NearState b i (restart_of g t kind).state (restart_of g r kind).state
restart_near g b i outside t r near kind =
    record {
      device =
          subst (λ (swap : Bool). NearDevice (i % 4) (reset_device_of t.device kind (compared_of g t.one t.two)) (reset_device_of r.device kind swap))
          (ap (λ (c : Comparison). c.second) (comparison_same g b i outside t r near))
          (reset_near (i % 4) t.device r.device near.device kind (compared_of g t.one t.two));
      old_bank = near.old_bank;
      new_bank_lem = near.new_bank_lem;
    }

power_device : (d e : Device) (swap : Bool) → reset_device_of d 0 swap ≡ reset_device_of e 0 swap
unfolding reset_device_of reset_con_of
power_device d e swap = refl

reset_data : (d : Device) (kind : ℕ) (swap : Bool) → (kind ≡ 0 → ⊥) → (reset_device_of d kind swap).nvmdata ≡ d.nvmdata
unfolding reset_device_of
reset_data d kind swap ne = rw (ne_eqb kind 0 ne)

module _ (g : Geometry) (s : State) (image other : List ℕ) (i : ℕ) (update : Update g s image) (also : Update g s other)
    (same : (j : ℕ) → (j ≡ i → ⊥) → word_at image j ≡ word_at other j) (k : ℕ)
    (differs : Differs g (i % 4) (action_at (first g s image other i update also same)) (action_at (second g s image other i update also same)) k)
    (outside : i / 4 ≡ sequence_quad_of g → ⊥) {least : ℕ} (t r : State) (h : Together g s image other i update also same k differs least t r) (c : Cut) where
  abbrev pair : Pair g s image other i update also same (at t h.place) (at r h.place)
  pair = (together g s image other i update also same k differs h).0

  -- ---- the tear
  abbrev Torn : State → State → Type 0
  Torn a b = NearState (old s) i (tear_of g a c.sram c.mask) (tear_of g b c.sram c.mask)

  torn_moved : (a b a' b' : State) → a ≡ a' → b ≡ b' → Torn a' b' → Torn a b
  torn_moved a b a' b' e f near = rw (e, f) near

  abbrev at_p : State
  at_p = placed (old s) pair.at_p.device (first g s image other i update also same).old pair.at_p.new

  abbrev at_q : State
  at_q = placed (old s) pair.at_q.device (second g s image other i update also same).old pair.at_q.new

  abbrev device_near : NearDevice (i % 4) pair.at_p.device pair.at_q.device
  device_near = near_devices g s image other i update also same _ _ pair.at_p pair.at_q pair.near

  abbrev bank_near : SameBut i pair.at_p.new pair.at_q.new
  bank_near = near_banks g s image other i update also same _ _ pair.at_p pair.at_q pair.near

  on_device : (d : Bool) → running t.device ≡ d → running pair.at_p.device ≡ d
  on_device d e = ap (λ (u : State). running u.device) (sym pair.at_p.state) ∙ e

  on_device_q : (d : Bool) → running t.device ≡ d → running pair.at_q.device ≡ d
  on_device_q d e =
      ap (λ (u : State). running u.device) (sym pair.at_q.state) ∙ sym (running_same g s image other i update also same k differs h) ∙ e

  tear_near : Torn t r
  tear_near = torn_moved t r at_p at_q pair.at_p.state pair.at_q.state (go (running t.device) refl)
    where
      go : (d : Bool) → running t.device ≡ d → Torn at_p at_q
      go false off =
          rw (
            idle_tear (first g s image other i update also same) pair.at_p.device pair.at_p.new c (on_device false off),
            idle_tear (second g s image other i update also same) pair.at_q.device pair.at_q.new c (on_device_q false off),
          )
          (near_placed (old s) i pair.at_p.device pair.at_q.device _ pair.at_p.new pair.at_q.new device_near bank_near)
      go true on =
          let p = at t h.place in
          let q = at r h.place in
          let j = quad_p g s image other i update also same p q pair.at_p pair.at_q pair.near on in
          let m = quad_q g s image other i update also same p q pair.at_p pair.at_q pair.near on in
          let words = words_p g s image other i update also same p q pair.at_p pair.at_q pair.near on in
          let words' = words_q g s image other i update also same p q pair.at_p pair.at_q pair.near on in
          rw (
            running_tear (first g s image other i update also same) pair.at_p.device pair.at_p.new c (on_device true on) j words
                (ap (λ (u : State). effect_of g u c.sram) (sym pair.at_p.state)
                ∙ writes_p g s image other i update also same p q pair.at_p pair.at_q pair.near on c.sram),
            running_tear (second g s image other i update also same) pair.at_q.device pair.at_q.new c (on_device_q true on) m words'
                (ap (λ (u : State). effect_of g u c.sram) (sym pair.at_q.state)
                ∙ writes_q g s image other i update also same p q pair.at_p pair.at_q pair.near on c.sram),
            ← same_quad g s image other i update also same p q pair.at_p pair.at_q pair.near on,
          )
          (near_placed (old s) i pair.at_p.device pair.at_q.device _ _ _ device_near
          (merge_near i pair.at_p.new pair.at_q.new bank_near j words words' c.mask
          (same-words g s image other i update also same p q pair.at_p pair.at_q pair.near on)))

  abbrev compared : State → Bool
  compared u = let v = tear_of g u c.sram c.mask in compared_of g v.one v.two

  -- ---- the reset
  answer_same : reset_answer_of g t c.sram c.kind ≡ reset_answer_of g r c.sram c.kind
  unfolding reset_decline_of
  answer_same = rw (common_same g s image other i update also same k differs t r (length c.sram) pair.at_p.sound pair.at_q.sound)

  -- what two resets give
  pub record SameReset (a b : Explained) : Type 0 where
    pub decline : a.after.decline ≡ b.after.decline
    pub reason : a.reason ≡ b.reason
    pub near : NearState (old s) i a.after.state b.after.state

  pub reset_same : SameReset (explained_of g t c.sram c.kind c.mask) (explained_of g r c.sram c.kind c.mask)
  unfolding explained_of
  reset_same =
      rw (← answer_same)
      (pick_two SameReset (accepted_of (reset_answer_of g t c.sram c.kind))
      (record {
        decline = refl;
        reason = ap (λ (d : Comparison). d.reason) (comparison_same g (old s) i outside _ _ tear_near);
        near = restart_near g (old s) i outside _ _ tear_near c.kind;
      })
      (record { decline = refl; reason = refl; near = pair.near }))

  -- ---- and the start-up after it
  reset_possible : (u : State) → Sound g u → possible_of g (reset_by g u c).state.device ≡ true
  reset_possible u sound =
      by_reset g u c.sram c.kind c.mask (λ (a : After). possible_of g a.state.device ≡ true)
      (λ on. (reset_fresh g (listed g s image other i update also same) u.device sound.possible c.kind _).rest.possible)
      (λ off. sound.possible)

  pub start_up_same : (start_up_of g (reset_by g t c).state.device).decline ≡ (start_up_of g (reset_by g r c).state.device).decline
  unfolding start_up_of
  start_up_same =
      start-up-decline g (listed g s image other i update also same) (i % 4) (few g s image other i update also same) _ _
      (reset_possible t pair.at_p.sound) (reset_possible r pair.at_q.sound) reset_same.near.device

  pub restarted_near : NearState (old s) i (restarted g t c) (restarted g r c)
  restarted_near =
      record {
        device =
            start_up_near g (listed g s image other i update also same) (i % 4) (few g s image other i update also same) _ _
            (reset_possible t pair.at_p.sound) (reset_possible r pair.at_q.sound) reset_same.near.device;
        old_bank = reset_same.near.old_bank;
        new_bank_lem = reset_same.near.new_bank_lem;
      }

  -- ---- what a reset keeps of the difference: a power-on nothing of it, another kind NVMDATA of both
  module _ (ok : accepted_of (reset_by g t c).decline ≡ true) where
    device_p : (reset_by g t c).state.device ≡ reset_device_of t.device c.kind (compared t)
    device_p = ap (λ (a : After). a.state.device) (carried (first g s image other i update also same) t c ok)

    device_q : (reset_by g r c).state.device ≡ reset_device_of r.device c.kind (compared r)
    device_q =
        ap (λ (a : After). a.state.device) (carried (second g s image other i update also same) r c (ap accepted_of (sym reset_same.decline) ∙ ok))

    pub power_on_same : c.kind ≡ 0 → (reset_by g t c).state.device ≡ (reset_by g r c).state.device
    power_on_same zero =
        device_p
        ∙ ap (λ (kind : ℕ). reset_device_of t.device kind (compared t)) zero
        ∙ power_device t.device r.device (compared t)
        ∙ ap (λ (d : Comparison). reset_device_of r.device 0 d.second) (comparison_same g (old s) i outside _ _ tear_near)
        ∙ ap (λ (kind : ℕ). reset_device_of r.device kind (compared r)) (sym zero)
        ∙ sym device_q

    pub data_kept : (c.kind ≡ 0 → ⊥)
        → ((reset_by g t c).state.device.nvmdata ≡ t.device.nvmdata) × ((reset_by g r c).state.device.nvmdata ≡ r.device.nvmdata)
    data_kept ne = (
      ap (λ (d : Device). d.nvmdata) device_p ∙ reset_data t.device c.kind (compared t) ne,
      ap (λ (d : Device). d.nvmdata) device_q ∙ reset_data r.device c.kind (compared r) ne,
    )
