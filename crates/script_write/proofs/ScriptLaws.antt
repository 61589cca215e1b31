-- Records one after another: each has 8 bytes, so those of the first actions end where the next one's begin.
-- Assumes nothing.
use mathlib.Core.Path.{◌≡◌, refl, sym, ◌∙◌}
use mathlib.Core.List.{List, [], ◌∷◌, ◌++◌, append_assoc, append-nil}
use Prim.Native.Nat.{ℕ, zero, suc, ◌+◌, ◌*◌, ◌≤◌, ◌<◌}
use native.Mathlib.Omega.{arith}
use lib.ListN.{length, get_or, take, length-append, length-take, get_or-append}
use lib.Seq.{sets, take-suc, take_all, get_or-append-add}
use Rattle.text.proofs.BufferLaws.{sets_after, sets_front}
use Rattle.script_format.specs.declared.Record.{Record}
use Rattle.script_format.specs.Records.{bytes_of}
use Rattle.geometry.specs.declared.banks.Geometry.{Geometry}
use Rattle.update.specs.declared.actions.Action.{Action}
use Rattle.update.specs.declared.actions.Action.TheVariants.{Step}
use Rattle.update.specs.Actions.{recorded, actions_of, action_at_of, total_of}
use Rattle.update.proofs.ActionLaws.{actions_total, action_listed}
use Rattle.script_write.specs.Script.{record_bytes_of, script_of, with_script}

pub record_length : (r : Record) → length (bytes_of r) ≡ 8
unfolding bytes_of
record_length r = refl

pub records_length : (l : List Action) → length (record_bytes_of l) ≡ 8 * length l
records_length [] = refl
records_length (a ∷ l) =
    length-append (bytes_of (recorded a)) (record_bytes_of l) ∙ rw (record_length (recorded a), records_length l) (omega arith)

records_append : (l m : List Action) → record_bytes_of (l ++ m) ≡ record_bytes_of l ++ record_bytes_of m
records_append [] m = refl
records_append (a ∷ l) m = rw (records_append l m, append_assoc (bytes_of (recorded a)) (record_bytes_of l) (record_bytes_of m))

-- byte k of record i
pub record_byte : (l : List Action) (i k : ℕ) → i < length l → k < 8
    → get_or (record_bytes_of l) (8 * i + k) 0 ≡ get_or (bytes_of (recorded (get_or l i Step))) k 0
record_byte [] i k m n = absurd (omega arith)
record_byte (a ∷ l) zero k m n =
    let first : 8 * 0 + k ≡ k = omega arith in
    rw first (get_or-append (bytes_of (recorded a)) (record_bytes_of l) 0 k (rw (record_length (recorded a)) n))
record_byte (a ∷ l) (suc i) k m n =
    let far : 8 * suc i + k ≡ length (bytes_of (recorded a)) + (8 * i + k) = rw (record_length (recorded a)) (omega arith) in
    rw far (get_or-append-add (bytes_of (recorded a)) (record_bytes_of l) (8 * i + k) 0 ∙ record_byte l i k (omega arith) n)

module _ (g : Geometry) (image : List ℕ) (w : ℕ) where
  abbrev pub first_records : ℕ → List ℕ
  first_records place = record_bytes_of (take place (actions_of g image w))

  pub script_length : length (script_of g image w) ≡ 8 * total_of g
  unfolding script_of
  script_length = records_length (actions_of g image w) ∙ rw (actions_total g image w)

  -- the next record after those so far
  pub put_next : (before : List ℕ) (place : ℕ) → place < total_of g
      → sets (sets before 0 (first_records place)) (8 * place) (bytes_of (recorded (action_at_of g image w place))) ≡ sets before 0 (first_records (suc place))
  put_next before place l =
      let all = actions_of g image w in
      let within : place < length all = rw (actions_total g image w) l in
      let next = bytes_of (recorded (get_or all place Step)) in
      let size = records_length (take place all) in
      rw (action_listed g image w place l, take-suc all place Step within, records_append (take place all) (get_or all place Step ∷ []), append-nil next)
      (sym (sets_after before 0 (8 * place) (record_bytes_of (take place all)) next (omega (arith, size, length-take place all))))

  -- all of them: the script
  pub put_all : first_records (total_of g) ≡ script_of g image w
  unfolding script_of
  put_all = rw (take_all (total_of g) (actions_of g image w) (omega (arith, actions_total g image w)))

-- the script at the buffer's front, and after it what was there
pub put_front : (script before : List ℕ) → length script ≤ length before → sets before 0 script ≡ with_script script before
put_front script before room = rw (sets_front before script, take_all (length before) script room)
