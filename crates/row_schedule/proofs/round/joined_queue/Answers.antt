-- There is room for each that begins to wait; at the end all records have been met.
use Rattle.std.proofs.Common.{ℕ, suc, List, Bool, true, false, ◌≡◌, ◌<◌, ◌≤◌, ◌++◌, length, get_or, take, length-take, sym, ap, subst, ◌∙◌, add-one, arith}
use Rattle.std.proofs.Math.Seq.{get_or-take}
use Rattle.row_signs.specs.declared.queue.Queue.{Queue}
use Rattle.row_signs.specs.Signs.{waiting_of, queue_of}
use Rattle.row_queue.specs.Waiting.{without_of}
use Rattle.row_choice.specs.Choice.{records_of}
use Rattle.row_schedule.specs.Round.{QueueSound, MarksNew}
use Rattle.row_schedule.proofs.WaiterLaws.{judged_sound, copy_is, Joining, joining_room, joining_next, joining_passed}
use Rattle.row_schedule.proofs.round.joined_queue.Goals as goal
use Rattle.row_schedule.proofs.round.joined_queue.Goals.{then-begin, else-begin}

-- a record is marked
abbrev marked : List Bool → ℕ → Bool
marked begins i = get_or begins i false

has_room : (queue : Queue) (n : ℕ) (begins : List Bool) → n ≤ 32 → QueueSound queue n → MarksNew queue n begins
    → (copy : Queue) → copy ≡ without_of queue queue.count → (waiting : Queue) (j : ℕ) → Joining copy (marked begins) waiting j
    → j < n → marked begins j ≡ true → waiting.count < 32
has_room queue n begins few sound new copy e waiting j joining below here =
    joining_room copy (marked begins) waiting j joining (waiting_of queue) (copy_is queue copy e) n few
    (judged_sound queue n sound.inside sound.apart) new below here

-- the mark of record j is the one in the list of the first n
mark : (begins : List Bool) (n j : ℕ) (t : Bool) → j < length (take n begins) → get_or (take n begins) j false ≡ t → marked begins j ≡ t
mark begins n j t inside e = let l : j < n = omega (arith, inside, length-take n begins) in sym (get_or-take n begins j false l) ∙ e

pub join-waiting-requires : goal.join-waiting-requires
join-waiting-requires c =
    let a = c.args in
    has_room a.queue a.n a.begins c.requires.n_bound c.requires.queue_sound c.requires.marks_new _ c.without-waiting.ensures
    c.loop-j.waiting c.loop-j.j c.loop-j.invariant (omega (arith, length-take a.n a.begins))
    (mark a.begins a.n c.loop-j.j true c.loop-j-test.true c.if-begin.true)

pub loop-j-preserved : goal.loop-j-preserved
loop-j-preserved c =
    let a = c.args in
    let j = c.loop-j.j in
    let from = c.without-waiting.result in
    let begins = marked a.begins in
    let room : begins j ≡ true → c.loop-j.waiting.count < 32 =
    λ here. has_room a.queue a.n a.begins c.requires.n_bound c.requires.queue_sound c.requires.marks_new _ c.without-waiting.ensures
    c.loop-j.waiting j c.loop-j.invariant (omega (arith, length-take a.n a.begins)) here in
    let next : Joining from begins c.if-begin.waiting (suc j) =
    elim c.if-begin.branch [
      | then-begin w ↦
          let here = mark a.begins a.n j true c.loop-j-test.true w.if-begin.true in
          joining_next from begins c.loop-j.waiting j c.loop-j.invariant (room here) here c.if-begin.waiting (w.waiting-is ∙ w.join-waiting.ensures)
      | else-begin w ↦
          subst (λ (q : Queue). Joining from begins q (suc j)) (sym w.waiting-is)
          (joining_passed from begins c.loop-j.waiting j c.loop-j.invariant (mark a.begins a.n j false c.loop-j-test.true w.if-begin.false))
    ] in
    rw (add-one j) next

pub returns : goal.returns
returns c =
    let waiting = waiting_of c.args.queue in
    let all : c.loop-j.j ≡ c.args.n = omega (arith, length-take c.args.n c.args.begins) in
    c.loop-j.invariant.is waiting (copy_is c.args.queue _ c.without-waiting.ensures)
    ∙ ap (λ (n : ℕ). queue_of (waiting ++ records_of (marked c.args.begins) n)) all
