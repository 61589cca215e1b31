-- "The update, action by action": the list of actions, and the action at a place. Assumes nothing.
use Rattle.std.specs.Prelude.{ℕ, zero, suc, ◌+◌, ◌-◌, ◌*◌, ◌/◌, ◌%◌, List, [], ◌∷◌, ◌++◌, eqb, ltb, get_or, replicate}
use Rattle.words.specs.Word.{pick}
use Rattle.words.specs.Quad.{word_at, quad_at}
use Rattle.geometry.specs.declared.banks.Geometry.{Geometry}
use Rattle.geometry.specs.Banks.{pages_of, page_quads_of, boot_quads_of}
use Rattle.script_format.specs.declared.Record.{Record}
use Rattle.map.specs.Windows.{upper_boot, upper_program}
use Rattle.sequence.specs.Sequence.{sequence_quad_of, next_sequence_of}
use Rattle.start_up.specs.StartUp.{Access, access, key_stores}
use Rattle.update.specs.declared.actions.Action.{Action}
use Rattle.update.specs.declared.actions.Action.TheVariants.{Store, Step}
use Rattle.device.specs.Numbers.{NVMCON, NVMADDR, NVMDATA0, NVMDATA1, NVMDATA2, NVMDATA3, NVMBWP, plain, clear, set, quad_program, page_erase}
use Rattle.device.specs.Registers.{WR, WREN, UBWP}

-- stores as actions
abbrev pub stored : List Access → List Action
stored [] = []
stored (a ∷ rest) = Store a.register a.form a.value ∷ stored rest

-- f 0, f 1, .. one after the other, n of them
abbrev pub blocks : {A : Type 0} → ℕ → (ℕ → List A) → List A
blocks zero f = []
blocks (suc n) f = blocks n f ++ f n

-- "NVMCON clear 0x4000; NVMCON plain 0; set 0x4000; three keys; set 0x8000"
abbrev pub clearing_stores : List Access
clearing_stores = access NVMCON clear WREN ∷ access NVMCON plain 0 ∷ access NVMCON set WREN ∷ (key_stores ++ (access NVMCON set WR ∷ []))

-- "clear 0x4000; three keys; NVMBWP clear 0x1F."
abbrev pub unprotecting_stores : List Access
unprotecting_stores = access NVMCON clear WREN ∷ (key_stores ++ (access NVMBWP clear UBWP ∷ []))

-- "12 actions."
abbrev pub prologue : List Action
prologue = stored (clearing_stores ++ unprotecting_stores)

-- where quad j of a bank stands on the upper side: the boot pages on the upper alias, the program pages in the upper region
unfoldable pub upper_address_of : Geometry → ℕ → ℕ
upper_address_of g j = pick (ltb j (boot_quads_of g)) (upper_boot + 16 * j) (upper_program g + 16 * (j - boot_quads_of g))

-- "NVMCON plain 4, set 0x4000, keys, set 0x8000", with 2 in place of 4 for a quad
abbrev pub launch_stores : ℕ → List Access
launch_stores op = access NVMCON plain op ∷ access NVMCON set WREN ∷ (key_stores ++ (access NVMCON set WR ∷ []))

-- "clear 0x4000"
abbrev pub end_stores : List Access
end_stores = access NVMCON clear WREN ∷ []

-- "NVMADDR, NVMCON plain 4, set 0x4000, keys, set 0x8000, 8×Q steps, clear 0x4000": a page by its number in the bank
abbrev pub page_stores : Geometry → ℕ → List Access
page_stores g page = access NVMADDR plain (upper_address_of g (page * page_quads_of g)) ∷ launch_stores page_erase

abbrev pub page_block : Geometry → ℕ → List Action
page_block g page = stored (page_stores g page) ++ (replicate (page_quads_of g) Step ++ stored end_stores)

-- "NVMADDR, NVMDATA0 to 3, NVMCON plain 2, set 0x4000, keys, set 0x8000, one step, clear 0x4000": quad j of the bank with these
-- words
abbrev pub quad_stores : Geometry → ℕ → List ℕ → List Access
quad_stores g j words =
    access NVMADDR plain (upper_address_of g j)
    ∷ access NVMDATA0 plain (word_at words 0)
    ∷ access NVMDATA1 plain (word_at words 1)
    ∷ access NVMDATA2 plain (word_at words 2)
    ∷ access NVMDATA3 plain (word_at words 3)
    ∷ launch_stores quad_program

abbrev pub quad_block : Geometry → ℕ → List ℕ → List Action
quad_block g j words = stored (quad_stores g j words) ++ (Step ∷ stored end_stores)

-- "last boot page, other boot pages ascending, program pages ascending": page i of that order, by its number in the bank
unfoldable pub erased_page_of : Geometry → ℕ → ℕ
erased_page_of g i = pick (eqb i 0) (g.b - 1) (pick (ltb i g.b) (i - 1) i)

abbrev pub program_quads_of : Geometry → ℕ
program_quads_of g = g.p * page_quads_of g

-- "program pages, then boot pages ascending, sequence quad last": quad i of that order, by its number in the bank
unfoldable pub programmed_quad_of : Geometry → ℕ → ℕ
programmed_quad_of g i = pick (ltb i (program_quads_of g)) (boot_quads_of g + i) (i - program_quads_of g)

-- "The image is one bank long; its last boot quad is ignored.": quad j of the new bank, for the lower-alias bank's sequence word w
unfoldable pub new_quad_of : Geometry → List ℕ → ℕ → ℕ → List ℕ
new_quad_of g image w j = pick (eqb j (sequence_quad_of g)) (next_sequence_of w) (quad_at image j)

abbrev pub bank_quads_of : Geometry → ℕ
bank_quads_of g = pages_of g * page_quads_of g

-- "2. Erase on the upper side", "3. Program quads"
abbrev pub erasing : Geometry → List Action
erasing g = blocks (pages_of g) (λ i. page_block g (erased_page_of g i))

abbrev pub programming : Geometry → List ℕ → ℕ → List Action
programming g image w =
    blocks (bank_quads_of g) (λ i. quad_block g (programmed_quad_of g i) (new_quad_of g image w (programmed_quad_of g i)))

-- every action of an update with an image, in order
unfoldable pub actions_of : Geometry → List ℕ → ℕ → List Action
actions_of g image w = prologue ++ (erasing g ++ programming g image w)

-- "kind (0 store, 1 step ..), register .., form, 0, value": what a record of a script says of an action
abbrev pub recorded : Action → Record
recorded (Store r form value) = record { kind = 0; number = r; form = form; unused = 0; value = value }
recorded Step = record { kind = 1; number = 0; form = 0; unused = 0; value = 0 }

-- "Total 12 + 8×N + 112×N×Q."
unfoldable pub total_of : Geometry → ℕ
total_of g = 12 + 8 * pages_of g + 112 * (pages_of g * g.q)

-- ---- the action at a place, by division (Listed `action`: it is the list's)

-- the actions of a page, and of a quad
abbrev pub page_actions : Geometry → ℕ
page_actions g = 8 + page_quads_of g

abbrev pub quad_actions : ℕ
quad_actions = 13

-- the place of the first action that programs
abbrev pub programming_from : Geometry → ℕ
programming_from g = 12 + pages_of g * page_actions g

-- action k of a page's, and of a quad's
unfoldable pub page_action_of : Geometry → ℕ → ℕ → Action
page_action_of g page k =
    pick (ltb k 7) (get_or (stored (page_stores g page)) k Step) (pick (ltb k (7 + page_quads_of g)) Step (Store NVMCON clear WREN))

unfoldable pub quad_action_of : Geometry → ℕ → List ℕ → ℕ → Action
quad_action_of g j words k = get_or (quad_block g j words) k Step

unfoldable pub action_at_of : Geometry → List ℕ → ℕ → ℕ → Action
action_at_of g image w place =
    pick (ltb place 12) (get_or prologue place Step)
    (pick (ltb place (programming_from g))
    (let from = place - 12 in page_action_of g (erased_page_of g (from / page_actions g)) (from % page_actions g))
    (let from = place - programming_from g in
    let j = programmed_quad_of g (from / quad_actions) in
    quad_action_of g j (new_quad_of g image w j) (from % quad_actions)))
