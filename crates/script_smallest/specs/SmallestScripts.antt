-- W-210: what is promised of the smallest script, for every call, and that this fixes the call. Assumes nothing.
use Rattle.std.specs.Prelude.{ℕ, ◌+◌, ◌*◌, ◌-◌, ◌<◌, ◌≤◌, ◌≡◌, true, false, List, [], ◌∷◌, ◌⊎◌, length, take, drop, replicate}
use Rattle.words.specs.Decline.{Verdict, number_of, accepted_of}
use Rattle.geometry.specs.declared.banks.Geometry.{Geometry}
use Rattle.geometry.specs.Lent.{lent_decline_of, LentDeclines}
use Rattle.device.specs.State.{State}
use Rattle.common_declines.specs.Possible.{possible_of}
use Rattle.script_format.specs.Records.{Bytes, record_of, records_of, is_script_of}
use Rattle.script_record.specs.Record.{record_after_of}
use Rattle.script_play.specs.Play.{state_of}
use Rattle.script_smallest.specs.Smallest.{without_of, Smallest, smallest_of}

-- what a script without record i is, by its records
pub record Without (x : List ℕ) (i : ℕ) : Type 0 where
  pub fewer : records_of (without_of x i) + 1 ≡ records_of x
  pub below : (k : ℕ) → k < i → record_of (without_of x i) k ≡ record_of x k
  pub above : (k : ℕ) → i ≤ k → k + 1 < records_of x → record_of (without_of x i) k ≡ record_of x (k + 1)

-- the answer to record i of a play of x: the record is played on what those before it left
abbrev pub answer_at : Geometry → List ℕ → State → List ℕ → ℕ → ℕ
answer_at g sram s x i = number_of (record_after_of g sram (state_of g sram s x i) (record_of x i)).decline

-- a record of a play of x that gives the number
pub record Gives (g : Geometry) (sram : List ℕ) (s : State) (x : List ℕ) (number : ℕ) : Type 0 where
  pub at : ℕ
  pub below : at < records_of x
  pub answers : answer_at g sram s x at ≡ number

-- "drop the lowest record whose removal still leaves that number among the answers of the play, begin again from the top, and stop when none can go":
-- so x becomes r, and no other (`one_result`)
pub data Drops (g : Geometry) (sram : List ℕ) (s : State) (number : ℕ) : List ℕ → List ℕ → Type 0 where
  stop : (x : List ℕ) → ((i : ℕ) → i < records_of x → Gives g sram s (without_of x i) number → ⊥) → Drops g sram s number x x
  next : (x r : List ℕ) (i : ℕ) → i < records_of x → Gives g sram s (without_of x i) number
      → ((j : ℕ) → j < i → Gives g sram s (without_of x j) number → ⊥)
      → Drops g sram s number (without_of x i) r → Drops g sram s number x r

-- r is a part of x in its order: record k of r is record (at k) of x
pub record PartOf (r x : List ℕ) : Type 0 where
  pub at : ℕ → ℕ
  pub same : (k : ℕ) → k < records_of r → (at k < records_of x) × (record_of r k ≡ record_of x (at k))
  pub rising : (k : ℕ) → k + 1 < records_of r → at k < at (k + 1)

-- of the result r of a call that is not declined
pub record Shown (g : Geometry) (sram : List ℕ) (s : State) (x : List ℕ) (number : ℕ) (r : List ℕ) : Type 0 where
  pub drops : Drops g sram s number x r
  -- "The result shows the number, and without any one of its records it doesn't."
  pub shows : Gives g sram s r number
  pub needed : (i : ℕ) → i < records_of r → Gives g sram s (without_of r i) number → ⊥
  pub part : PartOf r x
  pub is-script : is_script_of r ≡ true
  -- where no record of the script can go, it is the script
  pub whole : ((i : ℕ) → i < records_of x → Gives g sram s (without_of x i) number → ⊥) → r ≡ x
  -- only its last record is refused, with that number
  pub last : (k : ℕ) → k + 1 ≡ records_of r → answer_at g sram s r k ≡ number
  pub accepted_before : (k : ℕ) → k + 1 < records_of r → answer_at g sram s r k ≡ 0

-- declines 1 and 2, by the geometry and the lengths of the four banks and of the SRAM
abbrev pub lent_of : Geometry → List ℕ → State → List ℕ → List ℕ → Verdict
lent_of g sram s one two = lent_decline_of g (length s.one ∷ length s.two ∷ length one ∷ length two ∷ []) (length sram)

-- none of 1, 2, 3, 14 and 20 applies: the script is played
pub record Playable (g : Geometry) (sram : List ℕ) (s : State) (x : List ℕ) (one two result : List ℕ) : Type 0 where
  pub lent : accepted_of (lent_of g sram s one two) ≡ true
  pub buffer : length result ≡ length x
  pub device : possible_of g s.device ≡ true
  pub script : is_script_of x ≡ true
  pub few : records_of x ≤ 64

-- which number the call gives, exactly where: 1, 2, 3, 14, 20, 21 in this order
pub record Declines (g : Geometry) (sram : List ℕ) (s : State) (x : List ℕ) (number : ℕ) (one two result : List ℕ) (a : Smallest) : Type 0 where
  -- 1 and 2; and 2, "a result buffer of another length"
  pub lent : LentDeclines g (length s.one ∷ length s.two ∷ length one ∷ length two ∷ []) (length sram) (number_of a.decline)
  pub buffer : accepted_of (lent_of g sram s one two) ≡ true → (length result ≡ length x → ⊥) → number_of a.decline ≡ 2
  -- 3 and 14, each after those before it
  pub device : accepted_of (lent_of g sram s one two) ≡ true → length result ≡ length x → possible_of g s.device ≡ false → number_of a.decline ≡ 3
  pub no_script : accepted_of (lent_of g sram s one two) ≡ true → length result ≡ length x → possible_of g s.device ≡ true → is_script_of x ≡ false
      → number_of a.decline ≡ 14
  -- "20, after 14, more than 64 records"
  pub records : accepted_of (lent_of g sram s one two) ≡ true → length result ≡ length x → possible_of g s.device ≡ true → is_script_of x ≡ true
      → 64 < records_of x → number_of a.decline ≡ 20
  -- "21, after it, the play never gives the number"; "Number 0 counts as never given."
  pub never : Playable g sram s x one two result → (number ≡ 0) ⊎ (Gives g sram s x number → ⊥) → number_of a.decline ≡ 21
  pub accepted : Playable g sram s x one two result → (number ≡ 0 → ⊥) → Gives g sram s x number → number_of a.decline ≡ 0
  -- a play of bytes answers with 0, 4, 5 or 6, so that every other number is never given
  pub only : Playable g sram s x one two result → Bytes x → (i : ℕ) → i < records_of x
      → let n = answer_at g sram s x i in (n ≡ 0) ⊎ ((n ≡ 4) ⊎ ((n ≡ 5) ⊎ (n ≡ 6)))
  pub others : Playable g sram s x one two result → Bytes x → (number ≡ 4 → ⊥) → (number ≡ 5 → ⊥) → (number ≡ 6 → ⊥) → number_of a.decline ≡ 21

-- what the call leaves
pub record Leaves (g : Geometry) (sram : List ℕ) (s : State) (x : List ℕ) (number : ℕ) (one two result : List ℕ) (a : Smallest) : Type 0 where
  -- "The result goes into a lent buffer of the script's length, the rest zeros, and the answer gives its number of records." Eight zeros are a record, too, so
  -- that the number alone says where the result ends.
  pub long : accepted_of a.decline ≡ true → length a.result ≡ length x
  pub count : accepted_of a.decline ≡ true → 8 * a.records ≤ length x
  pub shown : accepted_of a.decline ≡ true → Shown g sram s x number (take (8 * a.records) a.result)
  pub rest : accepted_of a.decline ≡ true → drop (8 * a.records) a.result ≡ replicate (length x - 8 * a.records) 0
  -- "Afterwards the scratch banks hold the originals' contents, also where 21 is given; nothing else lent changes then."
  pub scratch : (number_of a.decline ≡ 0) ⊎ (number_of a.decline ≡ 21) → (a.scratch_one ≡ s.one) × (a.scratch_two ≡ s.two)
  -- beside a decline the result is as before, and its records are 0 (ours)
  pub kept : accepted_of a.decline ≡ false → (a.result ≡ result) × (a.records ≡ 0)
  -- with another decline the scratch banks are as before, too
  pub untouched : (number_of a.decline ≡ 0 → ⊥) → (number_of a.decline ≡ 21 → ⊥) → (a.scratch_one ≡ one) × (a.scratch_two ≡ two)

-- all that W-210 asks of an answer and of what the call leaves
pub record Answers (g : Geometry) (sram : List ℕ) (s : State) (x : List ℕ) (number : ℕ) (one two result : List ℕ) (a : Smallest) : Type 0 where
  pub declines : Declines g sram s x number one two result a
  pub leaves : Leaves g sram s x number one two result a

-- a call that is played and gives the number
pub record Example (number : ℕ) : Type 0 where
  pub g : Geometry
  pub sram : List ℕ
  pub s : State
  pub x : List ℕ
  pub one : List ℕ
  pub two : List ℕ
  pub result : List ℕ
  pub playable : Playable g sram s x one two result
  pub bytes : Bytes x
  pub gives : Gives g sram s x number

pub record SmallestScripts : Type 0 where
  pub without : (x : List ℕ) (i : ℕ) → i < records_of x → Without x i
  -- what "drop .., begin again .., and stop" leaves of a script is one script
  pub one_result : (g : Geometry) (sram : List ℕ) (s : State) (number : ℕ) (x r q : List ℕ) → Drops g sram s number x r → Drops g sram s number x q → r ≡ q
  -- every call is answered so, and no other answer, scratch banks and result are as asked
  pub meets : (g : Geometry) (sram : List ℕ) (s : State) (x : List ℕ) (number : ℕ) (one two result : List ℕ)
      → Answers g sram s x number one two result (smallest_of g sram s x number one two result)
  pub fixes : (g : Geometry) (sram : List ℕ) (s : State) (x : List ℕ) (number : ℕ) (one two result : List ℕ) (a : Smallest)
      → Answers g sram s x number one two result a → a ≡ smallest_of g sram s x number one two result
  -- each of the three numbers that a play can give besides 0 is given by one
  pub four : Example 4
  pub five : Example 5
  pub six : Example 6
