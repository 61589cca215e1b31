-- The hypotheses of Choosing are met: a sign that begins to wait, and one that is served from the queue. Assumes nothing.
use Rattle.std.specs.Prelude.{[], ◌∷◌, ℕ, ◌*◌}
use Rattle.geometry.specs.Banks.{bank_words_of}
use Rattle.device.specs.declared.record.Device.{Device}
use Rattle.device.specs.Builders.{power_on, with_stored, with_con, with_launched}
use Rattle.update.specs.Bench.{smallest}
use Rattle.row_signs.specs.declared.sign.Sign.{Sign}
use Rattle.row_signs.specs.Signs.{queue_of}
use Rattle.row.specs.Row.{RowState}
use Rattle.row.specs.Choosing.{FirstWaiting, FirstMet, Begins, JudgedCall}
use Rattle.row.specs.TwoSigns.{example_store, example_call}

-- the sign of Example before the first erase of its update is launched, at place 18: NVMADDR and NVMOP are set, WREN and the key open
abbrev pub ready_device : Device
ready_device =
    with_con (with_stored power_on 0x1FC2_0000 power_on.nvmdata 0 power_on.nvmpwp.0 0x9FC0 power_on.nvmcon2.0 3) 0x4004 3 0

-- and after it, at place 19: WR, WREN and WRERR are set
abbrev pub erasing_device : Device
erasing_device =
    with_launched
    (with_con (with_stored power_on 0x1FC2_0000 power_on.nvmdata 0 power_on.nvmpwp.0 0x9FC0 power_on.nvmcon2.0 0) 0xE004 0 0)
    (record { nvmaddr = 0x1FC2_0000; nvmdata = power_on.nvmdata; nvmsrcaddr = 0 })

-- a sign whose banks are these two of the store
abbrev pub sign_of : Device → ℕ → ℕ → ℕ → Sign
sign_of d place first second =
    record { device = d; place = place; one = first * bank_words_of smallest; two = second * bank_words_of smallest }

-- record 0 erases, and was served last; record 1 would launch
abbrev pub erasing_row : RowState
erasing_row = record { signs = sign_of erasing_device 19 0 1 ∷ sign_of ready_device 18 2 3 ∷ []; queue = queue_of []; last = 0; store = example_store }

-- both would launch, and record 1 waits
abbrev pub waiting_row : RowState
waiting_row = record { signs = sign_of ready_device 18 0 1 ∷ sign_of ready_device 18 2 3 ∷ []; queue = queue_of (1 ∷ []); last = 0; store = example_store }

-- where K is 1
pub record Waiting : Type 0 where
  -- record 1 "whose turn would set WR while K or more are set begins to wait, and the search goes on" to record 0
  pub begins : Begins smallest erasing_row example_call 1 1
  pub goes_on : FirstMet smallest erasing_row example_call 1
  pub judged : JudgedCall smallest erasing_row example_call
  -- "With fewer than K set and a waiting sign that isn't passed over, it serves the longest waiting"
  pub served : FirstWaiting smallest waiting_row example_call 0
  pub judged_waiting : JudgedCall smallest waiting_row example_call
