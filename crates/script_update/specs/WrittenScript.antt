-- W-202: what is written, byte by byte, and that this fixes the call; that it is a script, and its play the update. Assumes nothing.
use Rattle.std.specs.Prelude.{ℕ, ◌+◌, ◌/◌, ◌%◌, ◌*◌, ◌≤◌, ◌<◌, ◌≡◌, true, false, List, [], ◌∷◌, length, get_or, take}
use Rattle.words.specs.Decline.{number_of, accepted_of}
use Rattle.script_format.specs.Records.{record_of, records_of, is_script_of}
use Rattle.script_record.specs.Record.{record_after_of}
use Rattle.script_play.specs.Play.{state_of, play_of}
use Rattle.geometry.specs.declared.banks.Geometry.{Geometry}
use Rattle.geometry.specs.Banks.{in_range_of}
use Rattle.geometry.specs.Lent.{most_sram}
use Rattle.sequence.specs.Sequence.{tseq_of}
use Rattle.device.specs.State.{State}
use Rattle.update.specs.declared.actions.Action.{Action}
use Rattle.update.specs.declared.actions.Action.TheVariants.{Store, Step}
use Rattle.update.specs.Actions.{recorded, actions_of, total_of}
use Rattle.update.specs.Start.{lower_word_of, start_of}
use Rattle.update.specs.Turn.{next_action_of, turn_of}
use Rattle.update.specs.PowerFail.{after_turns, place_after, Cut, restarted, Restarts, old, Lower, SameBanks, Words, Update, Claims}
use Rattle.script_write.specs.Script.{script_of, Writing, write_script_of}

-- the script of an image on a sign as it stands, and t
abbrev pub script_for : Geometry → State → List ℕ → List ℕ
script_for g s image = script_of g image (lower_word_of g s)

abbrev pub t : Geometry → State → ℕ
t g s = tseq_of (lower_word_of g s)

-- SRAMs that are not too long
abbrev pub Short : List (List ℕ) → Type 0
Short srams = (i : ℕ) → length (get_or srams i []) ≤ most_sram

-- "kind (0 store, 1 step ..), register .., form, 0, value little-endian. Unused bytes are 0.": the eight bytes of an action
abbrev pub eight_of : Action → List ℕ
eight_of (Store r form value) = 0 ∷ r ∷ form ∷ 0 ∷ value % 256 ∷ value / 256 % 256 ∷ value / 65536 % 256 ∷ value / 16777216 % 256 ∷ []
eight_of Step = 1 ∷ 0 ∷ 0 ∷ 0 ∷ 0 ∷ 0 ∷ 0 ∷ 0 ∷ []

-- the start is accepted, and the buffer has room for 8 × total bytes
pub record Room (g : Geometry) (s : State) (image buffer : List ℕ) : Type 0 where
  pub started : accepted_of (start_of g s image).decline ≡ true
  pub room : 8 * total_of g ≤ length buffer

-- what W-202 asks of the answer r of a call, and of the buffer after it
pub record Answers (g : Geometry) (s : State) (image buffer : List ℕ) (r : Writing) : Type 0 where
  -- "Start's own checks come first."
  pub start_first : accepted_of (start_of g s image).decline ≡ false → number_of r.decline ≡ number_of (start_of g s image).decline
  -- "Turned away: 17, after those, the buffer is shorter than 8 × total."
  pub too_short : accepted_of (start_of g s image).decline ≡ true → length buffer < 8 * total_of g → number_of r.decline ≡ 17
  pub accepted : Room g s image buffer → number_of r.decline ≡ 0
  -- declined it leaves the buffer, and the records are 0 (ours)
  pub declined : (number_of r.decline ≡ 0 → ⊥) → (r.records ≡ 0) × (r.buffer ≡ buffer)
  -- "For a start that is accepted, every action is written as an 8-byte record into a lent buffer, in order"
  pub counted : Room g s image buffer → (r.records ≡ total_of g) × (length r.buffer ≡ length buffer)
  pub written : Room g s image buffer → (i k : ℕ) → i < total_of g → k < 8
      → get_or r.buffer (8 * i + k) 0 ≡ get_or (eight_of (get_or (actions_of g image (lower_word_of g s)) i Step)) k 0
  -- "and bytes past the last record keep their contents"
  pub rest : Room g s image buffer → (k : ℕ) → 8 * total_of g ≤ k → get_or r.buffer k 0 ≡ get_or buffer k 0

-- what is written, for a geometry that decline 1 takes, an image of words of 32 bits and any sequence word
pub record IsScript (g : Geometry) (image : List ℕ) (w : ℕ) : Type 0 where
  pub long : length (script_of g image w) ≡ 8 * total_of g
  -- each number is one of a byte
  pub bytes : (k : ℕ) → get_or (script_of g image w) k 0 < 256
  -- decline 14 does not apply
  pub script : is_script_of (script_of g image w) ≡ true
  -- as many records as actions, and each is read back as the action of its place
  pub records : (records_of (script_of g image w) ≡ total_of g) × (length (actions_of g image w) ≡ total_of g)
  pub actions : (i : ℕ) → i < total_of g → record_of (script_of g image w) i ≡ recorded (get_or (actions_of g image w) i Step)

-- the play, on a sign whose start is accepted, of a script that was written for its t
pub record Plays (g : Geometry) (s : State) (image sram : List ℕ) (script : List ℕ) : Type 0 where
  -- record i is the action that a turn performs there: t is read once, and is the t of every turn
  pub actions : (i : ℕ) → i < total_of g → record_of script i ≡ recorded (next_action_of g (state_of g sram s script i) image i)
  -- after as many records as a list of turns did actions stands what these turns leave; so many short ones do one each
  pub under_way : (srams : List (List ℕ)) → state_of g sram s script (place_after g s image srams) ≡ after_turns g s image srams
  pub places : (srams : List (List ℕ)) → Short srams → length srams ≤ total_of g → place_after g s image srams ≡ length srams
  -- each record is answered 0, as the turn of its place is, and with the turn's event
  pub answers : (i : ℕ) → i < total_of g → let u = state_of g sram s script i in
      let a = record_after_of g sram u (record_of script i) in
      (accepted_of a.decline ≡ true) × (accepted_of (turn_of g u image sram i).decline ≡ true) × (a.event ≡ (turn_of g u image sram i).event)
  -- "Played from the same device, the script ends with the same device and banks as the updater.": as any list of turns that reaches the total
  pub ends : (buffer : List ℕ) (A : List (List ℕ)) → place_after g s image A ≡ total_of g → let a = play_of g sram s script buffer in
      (accepted_of a.decline ≡ true) × (a.after ≡ after_turns g s image A)
  -- and its first i records, played by themselves, leave what stands after i records
  pub first : (buffer : List ℕ) (i : ℕ) → i ≤ total_of g → let a = play_of g sram s (take (8 * i) script) buffer in
      (accepted_of a.decline ≡ true) × (a.after ≡ state_of g sram s script i)
  -- so of a play that is cut after i records all holds that demand 3 says of a cut; run A is the whole play
  pub claims : (i : ℕ) → i ≤ total_of g → Claims g s image (state_of g sram s script (total_of g)) (state_of g sram s script i)
  -- and where the old bank runs then, the same script serves again: the sign has the same t, and the play ends with the same banks
  pub again : (i : ℕ) → i ≤ total_of g → (c : Cut) → let u = state_of g sram s script i in
      Restarts g u c → Lower (restarted g u c) (old s)
      → (t g (restarted g u c) ≡ t g s)
      × ((other : List ℕ) → length other ≤ most_sram
      → SameBanks (state_of g sram s script (total_of g)) (state_of g other (restarted g u c) script (total_of g)))

pub record WrittenScript : Type 0 where
  -- every call is answered so, and no other answer is as asked
  pub meets : (g : Geometry) (s : State) (image buffer : List ℕ) → Answers g s image buffer (write_script_of g s image buffer)
  pub fixes : (g : Geometry) (s : State) (image buffer : List ℕ) (r : Writing) → Answers g s image buffer r → r ≡ write_script_of g s image buffer
  -- the script of which the next fields speak is what the call writes
  pub is_written : (g : Geometry) (s : State) (image buffer : List ℕ) → Room g s image buffer
      → take (8 * total_of g) (write_script_of g s image buffer).buffer ≡ script_for g s image
  pub is-script : (g : Geometry) → in_range_of g ≡ true → (image : List ℕ) → Words image → (w : ℕ) → IsScript g image w
  -- it depends on geometry, image and t alone, so it serves every sign with an accepted start and that t
  pub by_t : (g : Geometry) (image : List ℕ) (v w : ℕ) → tseq_of v ≡ tseq_of w → script_of g image v ≡ script_of g image w
  pub serves : (g : Geometry) (s u : State) (image buffer : List ℕ) → accepted_of (start_of g s image).decline ≡ true
      → accepted_of (start_of g u image).decline ≡ true → t g s ≡ t g u → write_script_of g s image buffer ≡ write_script_of g u image buffer
  pub plays : (g : Geometry) (s : State) (image : List ℕ) → Update g s image → (sram : List ℕ) → length sram ≤ most_sram
      → (w : ℕ) → tseq_of w ≡ t g s → Plays g s image sram (script_of g image w)
