-- The steps from the loop are those after the next step. That step is not declined, and while WR is 1 after it the one after it is not either.
use Rattle.std.proofs.Common.{◌≡◌, ℕ, ◌+◌, ◌-◌, ◌<◌, true, false, List, length, sym, ap, ◌∙◌, arith}
use Rattle.words.specs.Decline.{accepted_of}
use Rattle.geometry.specs.declared.banks.Geometry.{Geometry}
use Rattle.device.specs.State.{State, After, state, leaves}
use Rattle.device.specs.Record.{running}
use Rattle.flash.specs.Step.{advanced, step_decline_of, step_of}
use Rattle.flash.proofs.StepLaws.{next_accepts}
use Rattle.reads.specs.Read.{Stepped, stepped, steps_of}
use Rattle.reads.proofs.StepsLaws.{on_of, next_step}
use Rattle.reads.proofs.steps.Goals as goal

module _ (g : Geometry) (sram : List ℕ) (s : State) (a : After) (e : a ≡ step_of g s sram) where
  on : (left : ℕ) → 0 < left → steps_of g sram left s ≡ on_of g sram (left - 1) a
  on left h = next_step g sram left s h ∙ ap (on_of g sram (left - 1)) (sym e)

  -- the operation has ended: no steps are left
  ended : (left : ℕ) (z : Stepped) → 0 < left → running a.state.device ≡ false → steps_of g sram left s ≡ z → stepped a.state a.event ≡ z
  ended left z h off same = sym (on left h ∙ rw off) ∙ same

  -- it goes on
  more : (left : ℕ) (z : Stepped) → 0 < left → running a.state.device ≡ true → steps_of g sram left s ≡ z → steps_of g sram (left - 1) a.state ≡ z
  more left z h going same = sym (on left h ∙ rw going) ∙ same

  again : accepted_of (step_decline_of g s.device (length s.one) (length s.two) (length sram)) ≡ true → running a.state.device ≡ true
      → length a.state.one ≡ length s.one → length a.state.two ≡ length s.two
      → accepted_of (step_decline_of g a.state.device (length a.state.one) (length a.state.two) (length sram)) ≡ true
  again accepted going one two = rw (one, two, e) (next_accepts g s sram accepted (rw e at going))

pub returns-then-not-has : goal.returns-then-not-has
returns-then-not-has c =
    let l = c.loop in
    let new = c.step_accepted-a.new in
    let r = c.step_accepted-a.result in
    ended c.args.layout.geometry c.args.sram.now (state l.device l.one l.two) (leaves (advanced r.device r.event) new.one new.two) c.step_accepted-a.ensures
    (c.args.count - l.counter) _ (omega arith) (sym c.has.ensures ∙ c.if-not-has.true) l.invariant.same

pub loop-preserved : goal.loop-preserved
loop-preserved c =
    let l = c.loop in
    let new = c.step_accepted-a.new in
    let r = c.step_accepted-a.result in
    let s = state l.device l.one l.two in
    let a = leaves (advanced r.device r.event) new.one new.two in
    let going = sym c.has.ensures ∙ c.if-not-has.false in
    let left : c.args.count - (l.counter + 1) ≡ c.args.count - l.counter - 1 = omega arith in
    record {
      same =
          rw left (more c.args.layout.geometry c.args.sram.now s a c.step_accepted-a.ensures (c.args.count - l.counter) _ (omega arith) going l.invariant.same);
      going = again c.args.layout.geometry c.args.sram.now s a c.step_accepted-a.ensures l.invariant.going going (omega arith) (omega arith);
    }

pub returns : goal.returns
unfolding steps_of
returns c = let none : c.args.count - c.loop.counter ≡ 0 = omega arith in rw none at c.loop.invariant.same
