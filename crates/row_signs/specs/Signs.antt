-- W-206: the records of a row of signs, and their queue. Assumes nothing.
use Rattle.std.specs.Prelude.{ℕ, zero, suc, ◌+◌, ◌-◌, Bool, List, [], ◌∷◌, ◌++◌, eqb, length, get_or, set, take, drop, replicate}
use Rattle.words.specs.Word.{any_below}
use Rattle.device.specs.Builders.{power_on}
use Rattle.row_signs.specs.declared.sign.Sign.{Sign}
use Rattle.row_signs.specs.declared.queue.Queue.{Queue}

-- the record of a row's free place
abbrev pub no_sign : Sign
no_sign = record { device = power_on; place = 0; one = 0; two = 0 }

-- what is read past the end of a list: all numbers 0 and the arrays empty
abbrev pub past_end : Sign
past_end =
    record {
      device = record {
        nvmcon = record { 0 = 0 };
        nvmkey = 0;
        nvmaddr = 0;
        nvmdata = [];
        nvmsrcaddr = 0;
        nvmpwp = record { 0 = 0 };
        nvmbwp = record { 0 = 0 };
        nvmcon2 = record { 0 = 0 };
        keystep = 0;
        step = 0;
        launched = record { nvmaddr = 0; nvmdata = []; nvmsrcaddr = 0 };
      };
      place = 0;
      one = 0;
      two = 0;
    }

-- record i of a list
abbrev pub sign_at : List Sign → ℕ → Sign
sign_at signs i = get_or signs i past_end

-- up to 32 records by value
pub record Row : Type 0 where
  pub signs : List Sign

abbrev pub no_signs : Row
no_signs = record { signs = replicate 32 no_sign }

abbrev pub with_sign : Row → ℕ → Sign → Row
with_sign row i s = record { signs = set row.signs i s }

-- the first n entries
abbrev pub entries_of : List ℕ → ℕ → List ℕ
entries_of numbers zero = []
entries_of numbers (suc n) = entries_of numbers n ++ (get_or numbers n 0 ∷ [])

-- the record numbers that wait, the longest waiting first
abbrev pub waiting_of : Queue → List ℕ
waiting_of q = entries_of q.numbers q.count

-- the queue of such a list; its entries past the count are 0 (ours)
abbrev pub queue_of : List ℕ → Queue
queue_of waiting = record { count = length waiting; numbers = waiting ++ replicate (32 - length waiting) 0 }

-- those that wait without the one at position p; without none where p lies past the last
abbrev pub left_of : List ℕ → ℕ → List ℕ
left_of waiting p = take p waiting ++ drop (p + 1) waiting

-- record i waits
abbrev pub waits_of : List ℕ → ℕ → Bool
waits_of waiting i = any_below (λ p. eqb (get_or waiting p 0) i) (length waiting)
