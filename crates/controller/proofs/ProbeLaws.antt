-- A register read below key step 2 leaves the state, so a probe's reads anywhere in a list of operations go unseen; before the second key
-- store they do not keep the key from opening. Assumes nothing.
use mathlib.Core.Path.{◌≡◌, refl, sym, ap, ◌∙◌}
use mathlib.Core.Bool.{true}
use mathlib.Core.List.{List, [], ◌∷◌, ◌++◌}
use Prim.Native.Nat.{ℕ, zero, suc, ◌≤◌}
use native.Mathlib.Omega.{arith}
use borrow.Author.Tests.{le-ltb, ne_eqb}
use lib.Dec.{eqb, ltb}
use Rattle.words.specs.Word.{pick}
use Rattle.geometry.specs.declared.banks.Geometry.{Geometry}
use Rattle.words.specs.Decline.{accepted_of}
use Rattle.device.specs.declared.record.Device.{Device}
use Rattle.device.specs.Answer.{Answer}
use Rattle.device.specs.Builders.{with_con}
use Rattle.device.specs.Numbers.{NVMKEY, NVMCON2, plain, key1, key2, key3}
use Rattle.device.specs.Record.{register_of, is_open}
use Rattle.device.specs.State.{State, state}
use Rattle.register_fields.specs.Fields.{key_next_of, key_after_read_of}
use Rattle.register_fields.proofs.KeyLaws.{key_kept, key_closed, key_after_read_high}
use Rattle.common_declines.specs.CommonDecline.{common_decline_of}
use Rattle.common_declines.proofs.PossibleLaws.{possible}
use Rattle.register_access.specs.Store.{store_decline_of, store_of, read_decline_of, register_read_of}
use Rattle.register_access.proofs.AcceptedLaws.{AtRest, store_at_rest}
use Rattle.start_up.specs.StartUp.{start_up_stores, start_up_of}
use Rattle.controller.specs.Controller.{Operation, answer_of, transition_of, run_of, store_operations}
use Rattle.controller.specs.Controller.Operation.{register_read}
use Rattle.controller.specs.Probes.{Move, with_probe_of, without_probe_of, Polls, answers_of, own_answers_of, reads_of, key_store, keys_among, Probes}
use Rattle.controller.specs.Probes.Move.{own, probe}
use Rattle.controller.proofs.RunLaws.{by_read, run_append}
use Rattle.controller.proofs.StoreEquations.{key_store_lem, key_rest}
use Rattle.controller.proofs.StartUpLaws.{start_up_runs}

-- ---- one read
-- a device with another key step
abbrev keyed : Device → ℕ → Device
keyed d k = with_con d d.nvmcon.0 k d.step

read_leaves : (g : Geometry) (d : Device) (r : ℕ) → accepted_of (read_decline_of g d r) ≡ true
    → (register_read_of g d r).device ≡ keyed d (key_after_read_of d.keystep)
unfolding register_read_of
read_leaves g d r on = rw on

read_unchanged : (g : Geometry) (d : Device) (r : ℕ) → d.keystep ≤ 1 → (register_read_of g d r).device ≡ d
read_unchanged g d r low =
    by_read g d r (λ a. a.device ≡ d) (λ on. read_leaves g d r on ∙ ap (keyed d) (key_kept d.keystep (omega arith))) (λ off. refl)

-- a read that answers 0 was not declined
was_read : (g : Geometry) (d : Device) (r : ℕ) → accepted_of (register_read_of g d r).decline ≡ true → accepted_of (read_decline_of g d r) ≡ true
was_read g d r =
    by_read g d r (λ a. accepted_of a.decline ≡ true → accepted_of (read_decline_of g d r) ≡ true) (λ on h. on) (λ off h. h)

read_closes : (g : Geometry) (d : Device) (r : ℕ) → accepted_of (register_read_of g d r).decline ≡ true → 2 ≤ d.keystep
    → (register_read_of g d r).device ≡ keyed d 0
read_closes g d r on high = read_leaves g d r (was_read g d r on) ∙ ap (keyed d) (key_closed d.keystep high)

-- the key step after it, spelled out
pub read_key : (g : Geometry) (d : Device) (r : ℕ) → accepted_of (register_read_of g d r).decline ≡ true
    → (register_read_of g d r).device.keystep ≡ pick (eqb d.keystep 1) 1 0
unfolding key_after_read_of
read_key g d r on = ap (λ (e : Device). e.keystep) (read_leaves g d r (was_read g d r on)) ∙ go d.keystep
  where
    go : (k : ℕ) → pick (ltb k 2) k 0 ≡ pick (eqb k 1) 1 0
    go zero = refl
    go (suc zero) = refl
    go (suc (suc k)) = rw (le-ltb (suc (suc k)) 2 (omega arith), ne_eqb (suc (suc k)) 1 (λ e. omega arith))

read_answered : (g : Geometry) (d : Device) (r : ℕ) → accepted_of (common_decline_of g d [] 0) ≡ true → r ≤ NVMCON2
    → (accepted_of (register_read_of g d r).decline ≡ true) × ((register_read_of g d r).value ≡ register_of d r)
unfolding register_read_of read_decline_of
read_answered g d r on low = rw (on, le-ltb NVMCON2 r low) (refl, refl)

-- the state after a read below key step 2
pub read_same : (g : Geometry) (s : State) (r : ℕ) → s.device.keystep ≤ 1 → transition_of g s (register_read r) ≡ s
read_same g s r low = ap (λ (d : Device). state d s.one s.two) (read_unchanged g s.device r low)

-- ---- reads among operations
unseen : (g : Geometry) (s : State) (l : List Move) → Polls g s l → run_of g s (with_probe_of l) ≡ run_of g s (without_probe_of l)
unseen g s [] h = refl
unseen g s (own o ∷ rest) h = unseen g (transition_of g s o) rest h
unseen g s (probe r ∷ rest) (low, h) =
    unseen g (transition_of g s (register_read r)) rest h ∙ ap (λ (t : State). run_of g t (without_probe_of rest)) (read_same g s r low)

unseen_answers : (g : Geometry) (s : State) (l : List Move) → Polls g s l → own_answers_of g s l ≡ answers_of g s (without_probe_of l)
unseen_answers g s [] h = refl
unseen_answers g s (own o ∷ rest) h = ap (λ l. answer_of g s o ∷ l) (unseen_answers g (transition_of g s o) rest h)
unseen_answers g s (probe r ∷ rest) (low, h) =
    unseen_answers g (transition_of g s (register_read r)) rest h ∙ ap (λ (t : State). answers_of g t (without_probe_of rest)) (read_same g s r low)

-- ---- the three key stores with reads before the second
-- reads leave a device at rest at rest
read_rest : (g : Geometry) (d : Device) (r : ℕ) → AtRest g d → AtRest g (register_read_of g d r).device
read_rest g d r rest =
    by_read g d r (λ a. AtRest g a.device)
    (λ on. rw (read_leaves g d r on) (key_rest g d rest _ (key_after_read_high d.keystep (possible g d rest.possible).keys)))
    (λ off. rest)

reads_rest : (g : Geometry) (s : State) (l : List ℕ) → AtRest g s.device → AtRest g (run_of g s (reads_of l)).device
reads_rest g s [] rest = rest
reads_rest g s (r ∷ l) rest = reads_rest g (transition_of g s (register_read r)) l (read_rest g s.device r rest)

-- below key step 2 they change nothing
reads_same : (g : Geometry) (s : State) (l : List ℕ) → s.device.keystep ≤ 1 → run_of g s (reads_of l) ≡ s
reads_same g s [] low = refl
reads_same g s (r ∷ l) low = ap (λ (t : State). run_of g t (reads_of l)) (read_same g s r low) ∙ reads_same g s l low

-- the three key stores after reads leave the device with the key open
keys_leave : (g : Geometry) (s : State) → AtRest g s.device → (between : List ℕ)
    → run_of g s (key_store key1 ∷ (reads_of between ++ (key_store key2 ∷ key_store key3 ∷ []))) ≡ state (keyed s.device 3) s.one s.two
unfolding key_next_of
keys_leave g s rest between =
    ap (λ (a : Answer). run_of g (with a.device) (reads_of between ++ last)) (key_store_lem g d rest key1)
    ∙ run_append g (with (keyed d 1)) (reads_of between) last
    ∙ ap (λ (t : State). run_of g t last) (reads_same g (with (keyed d 1)) between (omega arith))
    ∙ ap (λ (a : Answer). with (store_of g a.device NVMKEY plain key3).device) (key_store_lem g (keyed d 1) (key_rest g d rest 1 (omega arith)) key2)
    ∙ ap (λ (a : Answer). with a.device) (key_store_lem g (keyed d 2) (key_rest g d rest 2 (omega arith)) key3)
  where
    d : Device
    d = s.device

    with : Device → State
    with e = state e s.one s.two

    last : List Operation
    last = key_store key2 ∷ key_store key3 ∷ []

-- reads leave another key step at most
reads_keyed : (g : Geometry) (s : State) (l : List ℕ) (k : ℕ) → AtRest g s.device
    → state (keyed (run_of g s (reads_of l)).device k) (run_of g s (reads_of l)).one (run_of g s (reads_of l)).two
    ≡ state (keyed s.device k) s.one s.two
reads_keyed g s [] k rest = refl
reads_keyed g s (r ∷ l) k rest =
    reads_keyed g (transition_of g s (register_read r)) l k (read_rest g s.device r rest)
    ∙ by_read g s.device r (λ a. state (keyed a.device k) s.one s.two ≡ state (keyed s.device k) s.one s.two)
    (λ on. ap (λ (d : Device). state (keyed d k) s.one s.two) (read_leaves g s.device r on))
    (λ off. refl)

keys_among_lem : (g : Geometry) (s : State) → AtRest g s.device → (before between : List ℕ)
    → run_of g s (keys_among before between) ≡ state (keyed s.device 3) s.one s.two
keys_among_lem g s rest before between =
    run_append g s (reads_of before) (key_store key1 ∷ (reads_of between ++ (key_store key2 ∷ key_store key3 ∷ [])))
    ∙ keys_leave g (run_of g s (reads_of before)) (reads_rest g s before rest) between
    ∙ reads_keyed g s before 3 rest

module _ (g : Geometry) (s : State) (on : accepted_of (store_decline_of g s.device NVMKEY plain) ≡ true) where
  rest : AtRest g s.device
  rest = store_at_rest g s.device NVMKEY plain refl on

  opens : (before between : List ℕ) → is_open (run_of g s (keys_among before between)).device ≡ true
  opens before between = ap (λ (t : State). is_open t.device) (keys_among_lem g s rest before between)

  launches : (before between : List ℕ) (next : List Operation) → run_of g s (keys_among before between ++ next) ≡ run_of g s (keys_among [] [] ++ next)
  launches before between next =
      run_append g s (keys_among before between) next
      ∙ ap (λ (t : State). run_of g t next) (keys_among_lem g s rest before between ∙ sym (keys_among_lem g s rest [] []))
      ∙ sym (run_append g s (keys_among [] []) next)

start_up_unseen : (g : Geometry) (s : State) (l : List Move) → without_probe_of l ≡ store_operations (start_up_stores s.device) → Polls g s l
    → run_of g s (with_probe_of l) ≡ state (start_up_of g s.device).device s.one s.two
start_up_unseen g s l e h = unseen g s l h ∙ ap (run_of g s) e ∙ sym (start_up_runs g s)

pub probes : Probes
probes =
    record {
      answered = read_answered;
      unchanged = read_unchanged;
      closes = λ g d r on high. let e = read_closes g d r on high in rw e (refl, refl);
      unseen = unseen;
      unseen_answers = unseen_answers;
      start_up_unseen = start_up_unseen;
      opens = opens;
      launches = launches;
    }
