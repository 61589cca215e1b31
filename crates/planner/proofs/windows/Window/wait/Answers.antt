-- By the laws of one window: it holds every minute, or is too short, or fits at once, or fits from its next first minute on.
use Rattle.std.proofs.Common.{◌≡◌, arith}
use Rattle.planner.specs.Windows.{week}
use Rattle.words.proofs.FirstLaws.{first_is}
use Rattle.planner.proofs.WindowLaws.{wait_whole, wait_none, wait_at_once, wait_next}
use Rattle.planner.proofs.WeekLaws.{some_wait, no_wait}
use Rattle.planner.proofs.windows.Window.wait.Goals as goal

pub returns-then-self-eq-WEEK : goal.returns-then-self-eq-WEEK
returns-then-self-eq-WEEK c =
    let a = c.args in
    let whole : a.self.length ≡ week = omega arith in
    some_wait 0 _ (rw whole (first_is _ _ _ (wait_whole a.self.start a.minute a.duration))) (omega arith)

pub returns-then-self-duration : goal.returns-then-self-duration
returns-then-self-duration c =
    let a = c.args in
    no_wait _ (first_is _ _ _ (wait_none a.self.start a.self.length a.minute a.duration (omega arith) (omega arith) (omega arith)))

pub returns-then-last-self : goal.returns-then-last-self
returns-then-last-self c =
    let a = c.args in
    let once = wait_at_once a.self.start a.self.length a.minute a.duration (omega arith) (omega arith) (omega arith) in
    some_wait 0 _ (first_is _ _ _ once) (omega arith)

pub returns : goal.returns
returns c =
    let a = c.args in
    let next = wait_next a.self.start a.self.length a.minute a.duration (omega arith) (omega arith) (omega arith) (omega arith) in
    some_wait _ _ (first_is _ _ _ next) (omega arith)
