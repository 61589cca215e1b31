-- Every store of an update has a form of its register, so it is declined for nothing but a running operation; and a step that is not
-- declined is carried out.
-- Assumes nothing.
use mathlib.Core.Path.{◌≡◌, refl}
use mathlib.Core.Bool.{true}
use mathlib.Core.List.{List, [], ◌∷◌}
use Prim.Native.Nat.{ℕ, zero, suc, ◌+◌, ◌-◌, ◌/◌, ◌%◌, ◌≤◌, ◌<◌}
use native.Mathlib.Omega.{arith}
use lib.Dec.{ltb}
use lib.ListN.{length, get_or}
use Rattle.words.proofs.PickLaws.{pick_both}
use Rattle.geometry.specs.declared.banks.Geometry.{Geometry}
use Rattle.geometry.specs.Banks.{in_range_of, InRange, page_quads_of}
use Rattle.device.specs.Record.{running}
use Rattle.common_declines.proofs.CommonDeclineLaws.{opens}
use Rattle.register_access.specs.Store.{has_form_of}
use Rattle.device.specs.State.{State}
use Rattle.controller.specs.Controller.{Sound}
use Rattle.flash.specs.Step.{step_decline_of, step_effect_of, stepped_of, step_of}
use Rattle.update.specs.declared.actions.Action.{Action}
use Rattle.update.specs.declared.actions.Action.TheVariants.{Step}
use Rattle.update.specs.Actions.{stored, prologue, page_stores, quad_block, page_action_of, quad_action_of, erased_page_of}
use Rattle.update.specs.Actions.{programmed_quad_of, new_quad_of, page_actions, programming_from, action_at_of, total_of}
use Rattle.update.specs.Turn.{Formed}

abbrev AllFormed : List Action → Type 0
AllFormed [] = Unit {0}
AllFormed (a ∷ l) = Formed a × AllFormed l

formed_at : (l : List Action) → AllFormed l → (k : ℕ) → Formed (get_or l k Step)
formed_at [] f zero = tt
formed_at [] f (suc k) = tt
formed_at (a ∷ l) f zero = f.0
formed_at (a ∷ l) f (suc k) = formed_at l f.1 k

prologue_formed : AllFormed prologue
unfolding has_form_of
prologue_formed = (refl, (refl, (refl, (refl, (refl, (refl, (refl, (refl, (refl, (refl, (refl, (refl, tt))))))))))))

page_formed : (g : Geometry) (page k : ℕ) → Formed (page_action_of g page k)
unfolding has_form_of page_action_of
page_formed g page k =
    pick_both Formed (ltb k 7) (formed_at (stored (page_stores g page)) (refl, (refl, (refl, (refl, (refl, (refl, (refl, tt))))))) k)
    (pick_both Formed (ltb k (7 + page_quads_of g)) tt refl)

quad_formed : (g : Geometry) (j : ℕ) (words : List ℕ) (k : ℕ) → Formed (quad_action_of g j words k)
unfolding has_form_of quad_action_of
quad_formed g j words k =
    formed_at (quad_block g j words) (refl, (refl, (refl, (refl, (refl, (refl, (refl, (refl, (refl, (refl, (refl, (tt, (refl, tt))))))))))))) k

pub actions_formed : (g : Geometry) (image : List ℕ) (w place : ℕ) → Formed (action_at_of g image w place)
unfolding action_at_of
actions_formed g image w place =
    pick_both Formed (ltb place 12) (formed_at prologue prologue_formed place)
    (pick_both Formed (ltb place (programming_from g)) (page_formed g (erased_page_of g ((place - 12) / page_actions g)) ((place - 12) % page_actions g))
    (let j = programmed_quad_of g ((place - programming_from g) / 13) in quad_formed g j (new_quad_of g image w j) ((place - programming_from g) % 13)))

pub total_high : (g : Geometry) → InRange g → total_of g < 2000000
unfolding total_of
total_high g ok = omega (arith, ok.boot_high, ok.program_high, ok.b_high, ok.p_high)

pub step_carried : (g : Geometry) (s : State) (sram : List ℕ) → in_range_of g ≡ true → Sound g s → length sram ≤ 16384 → running s.device ≡ true
    → step_of g s sram ≡ stepped_of s (step_effect_of g s sram)
unfolding step_of step_decline_of
step_carried g s sram listed sound short on =
    rw (opens g s.device (length s.one ∷ length s.two ∷ []) (length sram) listed (sound.first, (sound.other, tt)) short sound.possible, on)
