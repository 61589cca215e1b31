-- A turn that performs its action goes from phase to phase: a store goes on in its list, a step writes its quad, and the end of a block
-- leads to the next block or to the total.
-- Assumes nothing.
use mathlib.Core.Path.{◌≡◌, refl, sym, ap, ◌∙◌}
use Rattle.std.specs.Prelude.{Ok}
use mathlib.Core.Bool.{Bool, true, false, not}
use mathlib.Core.List.{List, [], ◌∷◌}
use mathlib.Core.Logic.{◌⊎◌, inl, inr}
use Prim.Native.Nat.{ℕ, suc, ◌+◌, ◌*◌, ◌≤◌, ◌<◌}
use native.Mathlib.Nat.{add-zero, eq-or-lt_of_le, mul-le-mul_right}
use native.Mathlib.Decide.{ℕ_discrete}
use native.Mathlib.Omega.{arith}
use lib.Dec.{eqb, lit<}
use lib.ListN.{length, get_or, take}
use lib.Seq.{take-length}
use borrow.Author.Tests.{eq-eqb, ne_eqb}
use Rattle.words.specs.Word.{pick}
use Rattle.words.specs.Quad.{put_quad}
use Rattle.words.specs.Decline.{accepted_of}
use Rattle.geometry.specs.Banks.{InRange, pages_of, page_quads_of, bank_words_of}
use Rattle.geometry.proofs.SizeLaws.{in-range}
use Rattle.device.specs.declared.record.Device.{Device}
use Rattle.device.specs.Record.{running, bfswap}
use Rattle.common_declines.specs.CommonDecline.{common_decline_of}
use Rattle.common_declines.proofs.CommonDeclineLaws.{opens}
use Rattle.register_access.specs.Store.{may_store_of, has_form_of, store_of}
use Rattle.register_access.proofs.AcceptedLaws.{AtRest}
use Rattle.start_up.specs.StartUp.{Access, access, stores_of}
use Rattle.flash.specs.Effect.{effect, effect_of}
use Rattle.flash.specs.Step.{step_decline_of, advance_of, step_of}
use Rattle.controller.specs.Controller.{Operation, Sound}
use Rattle.controller.proofs.StoreEquations.{store-accepted}
use Rattle.controller.proofs.StoreLaws.{store_possible}
use Rattle.controller.proofs.RunLaws.{run_sound}
use Rattle.update.specs.declared.actions.Action.{Action}
use Rattle.update.specs.declared.actions.Action.TheVariants.{Step}
use Rattle.update.specs.Actions.{erased_page_of, bank_quads_of, total_of, page_actions, programming_from, action_at_of}
use Rattle.update.specs.Turn.{next_action_of, action_decline_of, perform_of}
use Rattle.update.proofs.RestartLaws.{store_quad, step_quad}
use Rattle.update.proofs.HeadLaws.{Between}
use Rattle.update.proofs.StoringLaws.{none, Fit, form_at, storing_next}
use Rattle.update.proofs.PlaceLaws.{store_of_access, total_place, early_action}
use Rattle.update.proofs.ActionLaws.{page_length}
use Rattle.update.proofs.BankLaws.{some_quads, programmed_none, programmed_all}
use Rattle.update.proofs.PlacedLaws.{placed, new_long, lower_placed, put_placed}
use Rattle.update.proofs.Blocks.{Fixed, Block, Has, place_of, stores_in, steps_in, actions_in, quad_in, words_in, run_in, done_in, DeviceIn, BankIn, old_word}
use Rattle.update.proofs.Blocks.{Within, Storing, Stepping, Ending, Finished, Phase}
use Rattle.update.proofs.Blocks.Block.{prologue, page, quad}
use Rattle.update.proofs.Blocks.Phase.{storing, stepping, ending, finished}
use Rattle.update.proofs.BlockActions.{block_length, block-end, store_action, step_action, end_action, block_below}
use Rattle.update.proofs.BlockStores.{block_fits, block_rests, quad_swap, block_launches, prologue_leads}
use Rattle.update.proofs.BlockSteps.{block_codes, block_writes, bank_next, block_advances, block_leads}

module _ (u : Fixed) where
  open u use {g, image, b, old, listed, image_long}

  ok : InRange g
  ok = in-range g listed

  -- ---- a block begins
  some_stores : (k : Block) → 0 < length (stores_in u k)
  some_stores prologue = omega arith
  some_stores (page i) = omega arith
  some_stores (quad i) = omega arith

  pub enters : (k : Block) → Has u k → (d : Device) → DeviceIn u k d → (new : List ℕ) → BankIn u k 0 new → (place : ℕ) → place ≡ place_of u k
      → Phase u d new place
  enters k has d at new bank place here =
      storing
      (record {
        block = k;
        first = d;
        within = record { has = has; begins = at; bank = bank };
        count = 0;
        few = some_stores k;
        here = omega arith;
        device = refl;
      })

  -- after a block the next begins, or the total is reached
  next_phase : (k : Block) → Has u k → (d : Device) → Between g b d → (new : List ℕ) → length new ≡ bank_words_of g → BankIn u k (steps_in u k) new
      → (place : ℕ) → place ≡ place_of u k + length (actions_in u k) → Phase u d new place
  next_phase prologue has d at new long losing place here =
      enters (page 0) (omega (arith, ok.b_low)) d at new (losing, λ x l. absurd (omega arith)) place (omega arith)
  next_phase (page i) has d at new long (losing, erased) place here = go (eq-or-lt_of_le has)
    where
      go : (suc i ≡ pages_of g) ⊎ (suc i < pages_of g) → Phase u d new place
      go (inl e) =
          let all : pages_of g * page_quads_of g ≡ i * page_quads_of g + page_quads_of g = omega (arith, ap (λ (n : ℕ). n * page_quads_of g) e) in
          enters (quad 0) (some_quads g ok) d at new (losing.words, programmed_none g ok new long image (old_word u) (λ x l. erased x (omega arith))) place
          (omega (arith, page_length g (erased_page_of g i), ap (λ (n : ℕ). n * page_actions g) e))
      go (inr l) =
          enters (page (suc i)) l d at new (losing, λ x m. erased x (omega arith)) place (omega (arith, page_length g (erased_page_of g i)))
  next_phase (quad i) has d at new long (words, programmed) place here = go (eq-or-lt_of_le has)
    where
      count : i + 1 ≡ suc i
      count = omega arith

      go : (suc i ≡ bank_quads_of g) ⊎ (suc i < bank_quads_of g) → Phase u d new place
      go (inl e) =
          finished
          (record {
            rest = at.rest;
            whole = programmed_all g ok new long image (old_word u) image_long (rw (count ∙ e) at programmed);
            here = omega (arith, ap (λ (n : ℕ). n * 13) e, total_place g);
          })
      go (inr l) =
          enters (quad (suc i)) l d at new (words, rw (sym (add-zero (i + 1)) ∙ ap (λ (n : ℕ). n + 0) count) at programmed) place (omega arith)

  -- after its stores the steps of a block begin, or after the prologue the first page
  stores_done : (k : Block) (first d : Device) (new : List ℕ) → length new ≡ bank_words_of g → Within u k first 0 new → d ≡ stores_of g first (stores_in u k)
      → (place : ℕ) → place ≡ place_of u k + length (stores_in u k) → Phase u d new place
  stores_done k first d new long c e place here = go k c e here
    where
      steps : (k : Block) → Within u k first 0 new → d ≡ stores_of g first (stores_in u k) → place ≡ place_of u k + length (stores_in u k) → 0 < steps_in u k
          → Phase u d new place
      steps k c e here l =
          stepping
          (record {
            block = k;
            first = first;
            count = 0;
            within = c;
            few = l;
            here = omega arith;
            device = e ∙ block_launches u k c.has first c.begins l;
          })

      go : (k : Block) → Within u k first 0 new → d ≡ stores_of g first (stores_in u k) → place ≡ place_of u k + length (stores_in u k) → Phase u d new place
      go prologue c e here = next_phase prologue tt d (rw e (prologue_leads u first c.begins)) new long c.bank place (omega arith)
      go (page i) c e here = steps (page i) c e here (omega (arith, ok.q_low))
      go (quad i) c e here = steps (quad i) c e here (omega arith)

  -- ---- the action of a place is carried out and leads to the next phase
  abbrev pub action_at : ℕ → Action
  action_at place = action_at_of g image (old_word u) place

  pub record Goes (d : Device) (new : List ℕ) (place : ℕ) (sram : List ℕ) : Type 0 where
    pub allowed : accepted_of (action_decline_of d (action_at place)) ≡ true
    pub device : Device
    pub bank : List ℕ
    pub leaves : (perform_of g (placed b d old new) sram (action_at place)).state ≡ placed b device old bank
    pub sound : Sound g (placed b device old bank)
    pub four : length d.nvmdata ≡ 4 → length device.nvmdata ≡ 4
    pub phase : Phase u device bank (suc place)

  module _ (d : Device) (new : List ℕ) (place : ℕ) (sram : List ℕ) (sound : Sound g (placed b d old new)) where
    long : length new ≡ bank_words_of g
    long = new_long b d old new g sound

    goes_store : AtRest g d → (a : Access) → Fit a → action_at place ≡ store_of_access a
        → Phase u (store_of g d a.register a.form a.value).device new (suc place) → Goes d new place sram
    unfolding may_store_of
    goes_store rest a (form, word) action phase =
        record {
          allowed = rw (action, rest.idle);
          device = (store_of g d a.register a.form a.value).device;
          bank = new;
          leaves = rw action;
          sound =
              record {
                possible = store_possible g d a.register a.form a.value word (store-accepted g d rest a.register a.form form);
                first = sound.first;
                other = sound.other;
              };
          four = λ e. store_quad g d a.register a.form a.value ∙ e;
          phase = phase;
        }

    goes_step : length sram ≤ 16384 → running d ≡ true → action_at place ≡ Step → (j : ℕ) (words : List ℕ)
        → effect_of g (placed b d old new) sram ≡ effect false true (not b) j words
        → Phase u (advance_of g d false).device (put_quad new j words) (suc place) → Goes d new place sram
    unfolding step_of step_decline_of
    goes_step short on action j words writes phase =
        record {
          allowed = rw (action, on);
          device = (advance_of g d false).device;
          bank = put_quad new j words;
          leaves = rw action leaves;
          sound = rw leaves at (run_sound g (placed b d old new) sound (Operation.step sram ∷ []) (tt, tt));
          four = λ e. step_quad g d false ∙ e;
          phase = phase;
        }
      where
        opened : common_decline_of g d (length (pick b new old) ∷ length (pick b old new) ∷ []) (length sram) ≡ Ok tt
        opened = opens g d _ (length sram) listed (sound.first, (sound.other, tt)) short sound.possible

        leaves : (step_of g (placed b d old new) sram).state ≡ placed b (advance_of g d false).device old (put_quad new j words)
        leaves = rw (opened, on, writes) (put_placed b d old new (advance_of g d false).device j words)

    storing_goes : Storing u d new place → Goes d new place sram
    storing_goes c =
        goes_store (rw c.device (block_rests u k c.within.has c.first c.within.begins c.count c.few)) (get_or (stores_in u k) c.count none)
        (form_at (stores_in u k) (block_fits u k c.within.has) c.count c.few)
        (ap action_at c.here ∙ store_action u k c.within.has c.count c.few)
        (go (eq-or-lt_of_le c.few))
      where
        k : Block
        k = c.block

        a : Access
        a = get_or (stores_in u c.block) c.count none

        next : (store_of g d a.register a.form a.value).device ≡ stores_of g c.first (take (suc c.count) (stores_in u c.block))
        next = storing_next g d c.first (stores_in u c.block) c.count c.few c.device

        go : (suc c.count ≡ length (stores_in u c.block)) ⊎ (suc c.count < length (stores_in u c.block))
            → Phase u (store_of g d a.register a.form a.value).device new (suc place)
        go (inl e) =
            stores_done c.block c.first _ new long c.within
            (next ∙ ap (λ (n : ℕ). stores_of g c.first (take n (stores_in u c.block))) e ∙ ap (stores_of g c.first) (take-length (stores_in u c.block)))
            (suc place) (omega (arith, c.here, e))
        go (inr l) =
            storing
            (record {
              block = c.block;
              first = c.first;
              within = c.within;
              count = suc c.count;
              few = l;
              here = omega (arith, c.here);
              device = next;
            })

    stepping_goes : length sram ≤ 16384 → Stepping u d new place → Goes d new place sram
    stepping_goes short c =
        goes_step short (ap running c.device ∙ (block_codes u c.block).on)
        (ap action_at c.here ∙ step_action u c.block c.within.has c.count c.few)
        (quad_in u c.block c.count) (words_in u c.block)
        (ap (λ (e : Device). effect_of g (placed b e old new) sram) c.device
        ∙ block_writes u c.block c.first c.count new c.within c.few sram)
        (go (ℕ_discrete (c.count + 1) (steps_in u c.block)))
      where
        written : List ℕ
        written = put_quad new (quad_in u c.block c.count) (words_in u c.block)

        within : (n : ℕ) → suc c.count ≡ n → Within u c.block c.first n (put_quad new (quad_in u c.block c.count) (words_in u c.block))
        within n e =
            record {
              has = c.within.has;
              begins = c.within.begins;
              bank = rw e at (bank_next u c.block c.within.has c.count new long c.few c.within.bank);
            }

        device : (t : Bool) → eqb (c.count + 1) (steps_in u c.block) ≡ t
            → (advance_of g d false).device ≡ pick t (done_in u c.block c.first) (run_in u c.block c.first (c.count + 1))
        device t e =
            ap (λ (e : Device). (advance_of g e false).device) c.device
            ∙ block_advances u c.block c.first c.count c.few
            ∙ ap (λ (t : Bool). pick t (done_in u c.block c.first) (run_in u c.block c.first (c.count + 1))) e

        go : Dec (c.count + 1 ≡ steps_in u c.block) → Phase u (advance_of g d false).device written (suc place)
        go (yes e) =
            ending
            (record {
              block = c.block;
              first = c.first;
              within = within (steps_in u c.block) (omega arith);
              ran = omega arith;
              here = omega (arith, c.here);
              device = device true (eq-eqb _ _ e);
            })
        go (no e) =
            stepping
            (record {
              block = c.block;
              first = c.first;
              count = c.count + 1;
              within = within (c.count + 1) (omega arith);
              few = omega (arith, c.few);
              here = omega (arith, c.here);
              device = device false (ne_eqb _ _ e);
            })

    ending_goes : Ending u d new place → Goes d new place sram
    unfolding has_form_of
    ending_goes c =
        goes_store rest (access 0 1 0x4000) (refl, lit< tt) (ap action_at c.here ∙ end_action u c.block c.within.has c.ran)
        (next_phase c.block c.within.has (store_of g d 0 1 0x4000).device
        (block_leads u c.block c.first d c.within.begins c.ran rest c.device) new long c.within.bank (suc place)
        (omega (arith, c.here, block_length u c.block, (block-end u c.block c.ran).0)))
      where
        rest : AtRest g d
        rest = record { listed = listed; range = ok; possible = sound.possible; idle = ap running c.device ∙ (block_codes u c.block).end_idle }

  -- ---- every place but the total
  pub phase_place : (d : Device) (new : List ℕ) (place : ℕ) → Phase u d new place → (place < total_of g) ⊎ Finished u d new place
  phase_place d new place (storing c) = inl (omega (arith, c.here, c.few, block_length u c.block, block_below u c.block c.within.has))
  phase_place d new place (stepping c) = inl (omega (arith, c.here, c.few, block_length u c.block, block_below u c.block c.within.has))
  phase_place d new place (ending c) =
      inl (omega (arith, c.here, (block-end u c.block c.ran).0, block_length u c.block, block_below u c.block c.within.has))
  phase_place d new place (finished c) = inr c

  pub phase_goes : (d : Device) (new : List ℕ) (place : ℕ) (sram : List ℕ) → Sound g (placed b d old new) → length sram ≤ 16384 → place < total_of g
      → Phase u d new place → Goes d new place sram
  phase_goes d new place sram sound short l (storing c) = storing_goes d new place sram sound c
  phase_goes d new place sram sound short l (stepping c) = stepping_goes d new place sram sound short c
  phase_goes d new place sram sound short l (ending c) = ending_goes d new place sram sound c
  phase_goes d new place sram sound short l (finished c) = absurd (omega (arith, c.here))

  -- ---- the action is that of the old bank's sequence word: before the programming no action depends on it, and then the old bank is lower
  phase_swap : (d : Device) (new : List ℕ) (place : ℕ) → Phase u d new place → place < total_of g → (place < programming_from g) ⊎ (bfswap d ≡ b)
  phase_swap d new place (storing c) l = go c.block c.within c.few c.here c.device
    where
      go : (k : Block) → Within u k c.first 0 new → c.count < length (stores_in u k) → place ≡ place_of u k + c.count
          → d ≡ stores_of g c.first (take c.count (stores_in u k)) → (place < programming_from g) ⊎ (bfswap d ≡ b)
      go prologue within few here device = inl (omega arith)
      go (page i) within few here device = inl (omega (arith, mul-le-mul_right (page_actions g) within.has))
      go (quad i) within few here device = inr (ap bfswap device ∙ quad_swap u i within.has c.first within.begins c.count few)
  phase_swap d new place (stepping c) l = inr (ap bfswap c.device ∙ (block_codes u c.block).boot)
  phase_swap d new place (ending c) l = inr (ap bfswap c.device ∙ (block_codes u c.block).end_boot)
  phase_swap d new place (finished c) l = absurd (omega (arith, c.here))

  pub next_action : (d : Device) (new : List ℕ) (place : ℕ) → Phase u d new place → place < total_of g
      → next_action_of g (placed b d old new) image place ≡ action_at place
  next_action d new place phase l = go (phase_swap d new place phase l)
    where
      go : (place < programming_from g) ⊎ (bfswap d ≡ b) → next_action_of g (placed b d old new) image place ≡ action_at place
      go (inl early) = early_action g image _ (old_word u) place early
      go (inr boot) = ap (λ (w : ℕ). action_at_of g image w place) (lower_placed b d old new g boot)
