-- The steps of a block: each writes one quad of the new bank, blank or programmed, and the last clears WR and WRERR. After its end the
-- device is between two blocks.
-- Assumes nothing.
use mathlib.Core.Path.{◌≡◌, refl, sym, ap, ◌∙◌}
use mathlib.Core.Bool.{Bool, true, false, not}
use mathlib.Core.List.{List}
use Prim.Native.Nat.{ℕ, suc, ◌+◌, ◌*◌, ◌<◌}
use native.Mathlib.Decide.{ℕ_discrete}
use native.Mathlib.Omega.{arith}
use lib.Arith.{digits_lt}
use lib.Dec.{eqb}
use lib.ListN.{length}
use Rattle.words.specs.Word.{pick, has_of, all_ones}
use Rattle.words.specs.Quad.{word_at, quad_at, put_quad, blank_quad}
use Rattle.geometry.specs.Banks.{InRange, page_quads_of, program_bytes_of, bank_words_of}
use Rattle.geometry.proofs.SizeLaws.{in-range}
use Rattle.sequence.specs.Sequence.{sequence_quad_of, sequence_index_of}
use Rattle.device.specs.declared.record.Device.{Device}
use Rattle.device.specs.Registers.{UBWPULOCK}
use Rattle.device.specs.Builders.{with_con, with_launched}
use Rattle.device.specs.Record.{no_operands}
use Rattle.protection.specs.Protection.{pwp_of}
use Rattle.nvmop.specs.Operation.{length_of}
use Rattle.device.specs.Answer.{Answer}
use Rattle.register_access.specs.Store.{store_of}
use Rattle.register_access.proofs.AcceptedLaws.{AtRest}
use Rattle.start_up.specs.StartUp.{access}
use Rattle.flash.specs.Effect.{effect, effect_of}
use Rattle.flash.specs.Step.{advance_of}
use Rattle.controller.proofs.StoreEquations.{clear_wren}
use Rattle.controller.proofs.RestLaws.{no_launch_rests}
use Rattle.update.specs.Actions.{erased_page_of, programmed_quad_of}
use Rattle.update.proofs.WordLaws.{Loses, erased_clash, clash_loses}
use Rattle.update.proofs.TargetLaws.{UpperFree, erase_effect, program_effect}
use Rattle.update.proofs.HeadLaws.{Between, rest_con, Codes, none_codes, page_codes, quad_codes, ended_between, quiet_clear}
use Rattle.update.proofs.BankLaws.{page_below, quad_below, page_quad, erased_next, programmed_next, words_put, other_word, same_word}
use Rattle.update.proofs.PlacedLaws.{placed}
use Rattle.update.proofs.Blocks.{Fixed, Block, Has, steps_in, op_in, loaded_in, quad_in, words_in}
use Rattle.update.proofs.Blocks.{run_in, done_in, DeviceIn, Losing, BankIn, Within, old_word, new_words}
use Rattle.update.proofs.Blocks.Block.{prologue, page, quad}
use Rattle.update.proofs.BlockStores.{new_small, new_four, blank_small}

module _ (u : Fixed) where
  open u use {g, image, b, old, listed, image_words, valid}

  ok : InRange g
  ok = in-range g listed

  pub block_codes : (k : Block) → Codes b (op_in u k)
  block_codes prologue = none_codes b
  block_codes (page i) = page_codes b
  block_codes (quad i) = quad_codes b

  -- ---- what a step writes
  pub block_writes : (k : Block) (d : Device) (n : ℕ) (new : List ℕ) → Within u k d n new → n < steps_in u k → (sram : List ℕ)
      → effect_of g (placed b (run_in u k d n) old new) sram ≡ effect false true (not b) (quad_in u k n) (words_in u k)
  block_writes prologue d n new c l sram = absurd (omega arith)
  block_writes (page i) d n new c l sram =
      erase_effect g ok (run_in u (page i) d n) c.begins.free ((page_codes b).program ∙ sym (page_codes b).boot) (pick b new old) (pick b old new) sram
      (erased_page_of g i) n (page_below g ok i c.has) l (page_codes b).op_code refl refl
      ∙ ap (λ (t : Bool). effect false true (not t) (quad_in u (page i) n) blank_quad) (page_codes b).boot
  block_writes (quad i) d n new c l sram =
      program_effect g ok (run_in u (quad i) d n) c.begins.free ((quad_codes b).program ∙ sym (quad_codes b).boot) (pick b new old) (pick b old new) sram
      (programmed_quad_of g i) (quad_below g ok i c.has) (quad_codes b).op_code refl (omega arith) (rw (quad_codes b).boot (blank b))
      ∙ ap (λ (t : Bool). effect false true (not t) (programmed_quad_of g i) (new_words u i)) (quad_codes b).boot
    where
      blank : (t : Bool) → quad_at (pick (not t) (pick t old new) (pick t new old)) (programmed_quad_of g i) ≡ blank_quad
      blank true = c.bank.1.blank i (omega arith) c.has
      blank false = c.bank.1.blank i (omega arith) c.has

  -- a blank quad leaves the new bank losing
  erase_loses : (new : List ℕ) → length new ≡ bank_words_of g → (j : ℕ) → Losing u new → Losing u (put_quad new j blank_quad)
  erase_loses new long j losing =
      record { words = words_put new j blank_quad losing.words blank_small; loses = go (ℕ_discrete j (sequence_quad_of g)) }
    where
      go : Dec (j ≡ sequence_quad_of g) → Loses b (old_word u) (word_at (put_quad new j blank_quad) (sequence_index_of g))
      go (yes e) = clash_loses b (old_word u) _ valid (rw (e, same_word g ok new all_ones all_ones all_ones all_ones long) erased_clash)
      go (no n) = rw (other_word g ok new j blank_quad n) losing.loses

  pub bank_next : (k : Block) → Has u k → (n : ℕ) (new : List ℕ) → length new ≡ bank_words_of g → n < steps_in u k → BankIn u k n new
      → BankIn u k (suc n) (put_quad new (quad_in u k n) (words_in u k))
  bank_next prologue has n new long l bank = absurd (omega arith)
  bank_next (page i) has n new long l (losing, erased) = (
    erase_loses new long (quad_in u (page i) n) losing,
    rw (page_quad g ok i n l, next) at (erased_next g ok new long (i * page_quads_of g + n) (digits_lt has l) erased),
  )
    where
      next : suc (i * page_quads_of g + n) ≡ i * page_quads_of g + suc n
      next = omega arith
  bank_next (quad i) has n new long l (words, programmed) = (
    words_put new (programmed_quad_of g i) (new_words u i) words (new_small g image (old_word u) (programmed_quad_of g i) image_words),
    rw next at (programmed_next g ok new long image (old_word u) i has (rw first at programmed)),
  )
    where
      first : i + n ≡ i
      first = omega arith

      next : suc i ≡ i + suc n
      next = omega arith

  -- ---- the device after a step
  length-steps : (k : Block) → 0 < steps_in u k → length_of g (op_in u k) ≡ steps_in u k
  unfolding length_of
  length-steps prologue l = absurd (omega arith)
  length-steps (page i) l = refl
  length-steps (quad i) l = refl

  pub block_advances : (k : Block) (d : Device) (n : ℕ) → n < steps_in u k
      → (advance_of g (run_in u k d n) false).device ≡ pick (eqb (n + 1) (steps_in u k)) (done_in u k d) (run_in u k d (n + 1))
  unfolding advance_of
  block_advances k d n l = go (eqb (n + 1) (steps_in u k)) refl
    where
      codes : Codes b (op_in u k)
      codes = block_codes k

      go : (t : Bool) → eqb (n + 1) (steps_in u k) ≡ t → (advance_of g (run_in u k d n) false).device ≡ pick t (done_in u k d) (run_in u k d (n + 1))
      go true h = rw (codes.op_code, length-steps k (omega arith), h, codes.ends)
      go false h = rw (codes.op_code, length-steps k (omega arith), h)

  -- ---- the end of a block with steps
  -- what its operation loads protects nothing of the upper side
  pub loaded_free : (k : Block) (d : Device) → DeviceIn u k d → 0 < steps_in u k
      → UpperFree (loaded_in u k d) × (has_of (loaded_in u k d).nvmbwp.0 UBWPULOCK ≡ true) × (pwp_of (loaded_in u k d) < program_bytes_of g)
      × (length (loaded_in u k d).nvmdata ≡ 4)
  loaded_free prologue d at l = absurd (omega arith)
  loaded_free (page i) d at l = (at.free, at.lock, at.reach, at.quad)
  loaded_free (quad i) d at l = (at.free, at.lock, at.reach, ap length (new_four g image (old_word u) (programmed_quad_of g i)))

  pub block_leads : (k : Block) (d e : Device) → DeviceIn u k d → 0 < steps_in u k → AtRest g e → e ≡ done_in u k d
      → Between g b (store_of g e 0 1 0x4000).device
  block_leads k d e at l rest same =
      let (free, lock, reach, four) = loaded_free k d at l in
      let codes = block_codes k in
      let ended : (store_of g e 0 1 0x4000).device ≡ with_con (with_launched (loaded_in u k d) no_operands) (rest_con b (op_in u k)) 0 0 =
      ap (λ (s : Answer). s.device) (clear_wren g e rest) ∙ rw (same, codes.rests) in
      ended_between g b (op_in u k) codes (store_of g e 0 1 0x4000).device (with_launched (loaded_in u k d) no_operands)
      (no_launch_rests g e rest (access 0 1 0x4000) quiet_clear) ended
      free lock reach four
