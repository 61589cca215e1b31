-- What holds of the controller, in one place. Assumes nothing.
use Rattle.words.proofs.PickLaws.{and_both, all-below}
use Rattle.device.specs.Record.{register_of}
use Rattle.device.specs.Registers.{within_of}
use Rattle.common_declines.specs.Possible.{implemented_of, possible_of}
use Rattle.controller.specs.Controller.{Controller}
use Rattle.controller.proofs.DeviceLaws.{power_on_possible}
use Rattle.controller.proofs.WriteLaws.{step_writes, reset_writes, one_quad}
use Rattle.controller.proofs.KeepLaws.{keeps}
use Rattle.controller.proofs.RunLaws.{run_sound, declined_same, compared, not_compared, none_valid}
use Rattle.controller.proofs.ProbeLaws.{read_key}
use Rattle.controller.proofs.StartUpLaws.{start_up_runs, start_up_accepted, start_up_sound, start_up_cut}

pub controller : Controller
unfolding possible_of implemented_of
controller =
    record {
      stays_sound = run_sound;
      power_on_lem = λ g one two a b. record { possible = power_on_possible g; first = a; other = b };
      declined_same = declined_same;
      masked = λ g s h r l. all-below (λ r. within_of r (register_of s.device r)) 11 (and_both (implemented_of s.device) _ h.possible).0 r l;
      read_key = λ g s r on. read_key g s.device r on;
      one_quad = λ g s sram. one_quad g s _ (step_writes g s sram);
      one_quad_torn = λ g s sram kind mask. one_quad g s _ (reset_writes g s sram kind mask);
      keeps = keeps;
      compared = compared;
      not_compared = not_compared;
      none_valid = none_valid;
      start_up_runs = start_up_runs;
      start_up_accepted = start_up_accepted;
      start_up_sound = start_up_sound;
      start_up_cut = start_up_cut;
    }
