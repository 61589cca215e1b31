-- The total grows with the pages and with Q, so the largest sign has the largest; each action's numbers fit a record of a script.
-- Assumes nothing.
use Prim.Native.Nat.{ℕ, zero, suc, ◌+◌, ◌-◌, ◌*◌, ◌/◌, ◌%◌, ◌^◌, ◌≤◌, ◌<◌}
use mathlib.Core.Path.{◌≡◌, refl}
use mathlib.Core.Bool.{Bool, true, false, ◌&&◌}
use mathlib.Core.List.{List, [], ◌∷◌}
use native.Mathlib.Omega.{arith}
use native.Mathlib.Nat.{mul-le-mul_right}
use lib.Dec.{leb, ltb}
use lib.ListN.{get_or}
use borrow.Author.Tests.{leb-true, ltb-true, ltb-false, le-leb}
use Rattle.words.specs.Quad.{word_at}
use Rattle.words.proofs.PickLaws.{and_both, pick_both}
use Rattle.geometry.specs.declared.banks.Geometry.{Geometry}
use Rattle.geometry.specs.Banks.{listed_of, in_range_up_to, in_range_of, InRange, pages_of, page_quads_of}
use Rattle.geometry.specs.LargerBanks.{most_before}
use Rattle.geometry.proofs.SizeLaws.{in-range}
use Rattle.flash.proofs.EffectLaws.{length_high}
use Rattle.script_format.specs.Records.{value_of, record_of, bytes_of, is_store_of, is_step_of, is_record_of, is_script_of}
use Rattle.update.specs.declared.actions.Action.{Action}
use Rattle.update.specs.declared.actions.Action.TheVariants.{Store, Step}
use Rattle.update.specs.Actions.{stored, prologue, page_stores, quad_block, upper_address_of, erased_page_of, programmed_quad_of, new_quad_of, bank_quads_of}
use Rattle.update.specs.Actions.{recorded, page_actions, programming_from, page_action_of, quad_action_of, action_at_of, total_of}
use Rattle.update.specs.PowerFail.{Words}
use Rattle.update.specs.LargerTotals.{Recorded, LargerTotals}
use Rattle.update.proofs.TargetLaws.{address_word}
use Rattle.update.proofs.BankLaws.{page_below, quad_below}
use Rattle.update.proofs.PlaceLaws.{page_at_lem, rest_below}
use Rattle.update.proofs.BlockStores.{SmallQuad, new_small}

-- ---- totals
largest : (g : Geometry) → g.b ≡ 5 → g.p ≡ 128 → g.q ≡ 128 → (in_range_of g ≡ true) × (total_of g ≡ 1907764)
unfolding in_range_up_to listed_of total_of
largest g b p q = (rw (b, p, q), rw (b, p, q))

before : (g : Geometry) → g.b ≡ 5 → g.p ≡ most_before → g.q ≡ 128 → total_of g ≡ 989748
unfolding total_of
before g b p q = rw (b, p, q)

most : (g : Geometry) → InRange g → total_of g ≤ 1907764
unfolding total_of
most g ok = omega (arith, ok.boot_high, ok.program_high, ok.b_high, ok.p_high)

-- ---- records
-- what fits a record
abbrev pub FitsRecord : Action → Type 0
FitsRecord (Store r form value) = (r ≤ 10) × ((form ≤ 3) × (value < 2 ^ 32))
FitsRecord Step = Unit {0}

-- each number of a list is a byte
abbrev AllBytes : List ℕ → Type 0
AllBytes [] = Unit {0}
AllBytes (b ∷ l) = (b < 256) × AllBytes l

byte_at : (l : List ℕ) → AllBytes l → (k : ℕ) → get_or l k 0 < 256
byte_at [] h zero = omega arith
byte_at [] h (suc k) = omega arith
byte_at (b ∷ l) h zero = h.0
byte_at (b ∷ l) h (suc k) = byte_at l h.1 k

pub read_back : (a : Action) → FitsRecord a → record_of (bytes_of (recorded a)) 0 ≡ recorded a
unfolding record_of value_of bytes_of
read_back (Store r form value) (register, (kind, word)) =
    let number : r % 256 ≡ r = omega arith in
    let form_byte : form % 256 ≡ form = omega arith in
    let top : value / 16777216 % 256 ≡ value / 16777216 = omega arith in
    let bytes : value % 256 + 256 * (value / 256 % 256) + 65536 * (value / 65536 % 256 + 256 * (value / 16777216)) ≡ value = omega arith in
    rw (number, form_byte, top, bytes)
read_back Step h = refl

pub known : (a : Action) → FitsRecord a → is_record_of (recorded a) ≡ true
unfolding is_record_of is_store_of is_step_of
known (Store r form value) (register, (kind, word)) = rw (le-leb r 10 register, le-leb form 3 kind)
known Step h = refl

all_bytes : (a : Action) → AllBytes (bytes_of (recorded a))
unfolding bytes_of
all_bytes a = (omega arith, (omega arith, (omega arith, (omega arith, (omega arith, (omega arith, (omega arith, (omega arith, tt))))))))

pub record_bytes : (a : Action) (k : ℕ) → get_or (bytes_of (recorded a)) k 0 < 256
record_bytes a = byte_at (bytes_of (recorded a)) (all_bytes a)

fit_recorded : (a : Action) → FitsRecord a → Recorded a
unfolding is_script_of bytes_of
fit_recorded a fits =
    record {
      eight = refl;
      bytes = record_bytes a;
      known = rw (read_back a fits, known a fits);
      says = read_back a fits;
    }

-- ---- actions
-- numbers that are written out
fit : (r form value : ℕ) → (leb r 10 && (leb form 3 && ltb value 4294967296)) ≡ true → FitsRecord (Store r form value)
fit r form value h =
    let (register, rest) = and_both (leb r 10) _ h in
    let (kind, word) = and_both (leb form 3) _ rest in
    (leb-true r 10 register, (leb-true form 3 kind, ltb-true value 4294967296 word))

abbrev AllFit : List Action → Type 0
AllFit [] = Unit {0}
AllFit (a ∷ l) = FitsRecord a × AllFit l

fits_at : (l : List Action) → AllFit l → (k : ℕ) → FitsRecord (get_or l k Step)
fits_at [] f zero = tt
fits_at [] f (suc k) = tt
fits_at (a ∷ l) f zero = f.0
fits_at (a ∷ l) f (suc k) = fits_at l f.1 k

prologue_fits : AllFit prologue
prologue_fits = (
  fit _ _ _ refl,
  (
    fit _ _ _ refl,
    (
      fit _ _ _ refl,
      (
        fit _ _ _ refl,
        (
          fit _ _ _ refl,
          (
            fit _ _ _ refl,
            (
              fit _ _ _ refl,
              (
                fit _ _ _ refl,
                (
                  fit _ _ _ refl,
                  (fit _ _ _ refl, (fit _ _ _ refl, (fit _ _ _ refl, tt))),
                ),
              ),
            ),
          ),
        ),
      ),
    ),
  ),
)

module _ (g : Geometry) (ok : InRange g) where
  page_fits : (page k : ℕ) → page < pages_of g → FitsRecord (page_action_of g page k)
  unfolding page_action_of
  page_fits page k l =
      let within : suc page * page_quads_of g ≤ pages_of g * page_quads_of g = mul-le-mul_right (page_quads_of g) l in
      let inside : page * page_quads_of g < bank_quads_of g = omega (arith, within, ok.q_low) in
      let address : FitsRecord (Store 2 0 (upper_address_of g (page * page_quads_of g))) = (omega arith, (omega arith, address_word g ok _ inside)) in
      pick_both FitsRecord (ltb k 7)
      (fits_at (stored (page_stores g page))
      (address, (fit _ _ _ refl, (fit _ _ _ refl, (fit _ _ _ refl, (fit _ _ _ refl, (fit _ _ _ refl, (fit _ _ _ refl, tt))))))) k)
      (pick_both FitsRecord (ltb k (7 + page_quads_of g)) tt (fit _ _ _ refl))

  quad_fits : (j : ℕ) (words : List ℕ) (k : ℕ) → j < bank_quads_of g → SmallQuad words → FitsRecord (quad_action_of g j words k)
  unfolding quad_action_of
  quad_fits j words k l small =
      let address : FitsRecord (Store 2 0 (upper_address_of g j)) = (omega arith, (omega arith, address_word g ok j l)) in
      let word : (i : ℕ) → i < 4 → FitsRecord (Store (3 + i) 0 (word_at words i)) = λ i h. (omega arith, (omega arith, small i h)) in
      fits_at (quad_block g j words) (
        address,
        (
          word 0 (omega arith),
          (
            word 1 (omega arith),
            (
              word 2 (omega arith),
              (
                word 3 (omega arith),
                (
                  fit _ _ _ refl,
                  (fit _ _ _ refl, (fit _ _ _ refl, (fit _ _ _ refl, (fit _ _ _ refl, (fit _ _ _ refl, (tt, (fit _ _ _ refl, tt))))))),
                ),
              ),
            ),
          ),
        ),
      )
      k

  pub action_fits : (image : List ℕ) → Words image → (w place : ℕ) → place < total_of g → FitsRecord (action_at_of g image w place)
  unfolding action_at_of
  action_fits image words w place l = head (ltb place 12) refl
    where
      later : ltb place 12 ≡ false → (t : Bool) → ltb place (programming_from g) ≡ t → FitsRecord (action_at_of g image w place)
      later past true e =
          let i = (place - 12) / page_actions g in
          let page = page_below g ok i (page_at_lem g place (ltb-false place 12 past) (ltb-true place (programming_from g) e)) in
          rw (past, e) (page_fits (erased_page_of g i) ((place - 12) % page_actions g) page)
      later past false e =
          let i = (place - programming_from g) / 13 in
          let j = programmed_quad_of g i in
          let quad = quad_below g ok i (rest_below g place (ltb-false place (programming_from g) e) l) in
          rw (past, e) (quad_fits j (new_quad_of g image w j) ((place - programming_from g) % 13) quad (new_small g image w j words))

      head : (t : Bool) → ltb place 12 ≡ t → FitsRecord (action_at_of g image w place)
      head true e = rw e (fits_at prologue prologue_fits place)
      head false e = later e (ltb place (programming_from g)) refl

pub larger_totals : LargerTotals
larger_totals =
    record {
      largest = largest;
      most = λ g listed. omega (arith, most g (in-range g listed));
      before = before;
      places = λ g listed. omega (arith, most g (in-range g listed));
      steps = λ g listed op. omega (arith, length_high g (in-range g listed) op);
      records = λ g listed image words w place l. fit_recorded (action_at_of g image w place) (action_fits g (in-range g listed) image words w place l);
    }
