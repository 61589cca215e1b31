-- What a call works on, and what it leaves. Assumes nothing.
use Rattle.std.specs.Prelude.{ℕ, Bool, List}
use Rattle.words.specs.Decline.{Verdict}
use Rattle.std.specs.Borrow.{Bor}
use Rattle.words.specs.Word.{pick}
use Rattle.device.specs.declared.record.Device.{Device}
use Rattle.device.specs.Answer.{Answer}

-- the device, bank 1 and bank 2
pub record State : Type 0 where
  pub device : Device
  pub one : List ℕ
  pub two : List ℕ

abbrev pub state : Device → List ℕ → List ℕ → State
state d one two = record { device = d; one = one; two = two }

-- bank 1, or bank 2
abbrev pub bank_of : State → Bool → List ℕ
bank_of s second = pick second s.two s.one

-- everything after a call: the answer, the state, the event
pub record After : Type 0 where
  pub decline : Verdict
  pub state : State
  pub event : Bool

abbrev pub after : Verdict → State → Bool → After
after decline s event = record { decline = decline; state = s; event = event }

-- everything after a call that changes the device alone
abbrev pub answered_of : State → Answer → After
answered_of s a = after a.decline (state a.device s.one s.two) a.event

-- ---- in contracts: a device with two banks that are lent to be read, and an answer with the banks as they are then
abbrev pub lent : Device → Bor (List ℕ) → Bor (List ℕ) → State
lent d one two = state d one.now two.now

abbrev pub leaves : Answer → List ℕ → List ℕ → After
leaves a one two = after a.decline (state a.device one two) a.event
