-- The bench values hold: a page's offset is at least 128, or 0.
-- Assumes nothing.
use mathlib.Core.Path.{ap}
use Prim.Native.Nat.{ℕ, ◌*◌, ◌+◌}
use native.Mathlib.Nat.{mul-le-mul, zero-mul}
use native.Mathlib.Omega.{arith}
use borrow.Author.Tests.{lt-leb}
use Rattle.geometry.proofs.SizeLaws.{in-range}
use Rattle.sequence.proofs.Bench as sequence-bench
use Rattle.geometry.specs.Banks.{round_down_of}
use Rattle.map.specs.Windows.{locate_of}
use Rattle.protection.specs.Protection.{program_protected_of, protected_of}
use Rattle.nvmop.specs.Operation.{unit_of, target_of}
use Rattle.nvmop.specs.Bench.{Bench}

pub bench : Bench
unfolding protected_of program_protected_of unit_of target_of
bench =
    record {
      sequence = sequence-bench.bench;
      pwp_zero = λ g d upper page e. rw e;
      pwp_one_first = λ g d e. rw (e, zero-mul);
      pwp_one_lower = λ g d ok e page l.
          rw (e, lt-leb (page * (128 * g.q)) 1 (omega (arith, mul-le-mul l (in-range g ok).q_low)));
      pwp_one_upper = λ g d ok e page.
          rw (e, lt-leb (g.p * (128 * g.q) + page * (128 * g.q)) 1 (omega (arith, mul-le-mul (in-range g ok).p_low (in-range g ok).q_low)));
      page_rounds = λ g e. ap (λ (q : ℕ). locate_of g (round_down_of 0x1D00_00FF (128 * q))) e;
    }
