-- Which bits of a register take a store, and the bits of the wanted value: each mask is its fields, each test of a field one bit or two.
-- Assumes nothing.
use mathlib.Core.Path.{◌≡◌, refl, ap, ◌∙◌}
use mathlib.Core.Bool.{Bool, true, false, not, ◌&&◌, ◌||◌, or-false, and-true, and-false}
use Prim.Native.Nat.{ℕ, ◌+◌}
use lib.Dec.{eqb, leb}
use lib.Bits.{bit_or, bit_xor}
use Rattle.words.specs.Word.{pick, bit, clear_of}
use Rattle.words.proofs.BitLaws.{xor, bit-or, bit-xor, clear_bit, bit_zero, has_bit}
use Rattle.words.proofs.FieldMaskLaws.{one_bit, low_ones, field_ones, fields, has_or, both_bits}
use Rattle.device.specs.declared.record.Device.{Device}
use Rattle.device.specs.Record.{is_open}
use Rattle.device.specs.Registers.{WREN, NVMOP, PFSWAP, BFSWAP}
use Rattle.register_fields.specs.Fields.{wanted_of, con_takes_of, pwp_takes_of, bwp_takes_of, con2_takes_of}

-- "form 0 plain, 1 clear, 2 set or 3 invert"
pub wanted_bit_lem : (form old value k : ℕ) → bit k (wanted_of form old value)
    ≡ pick (eqb form 0) (bit k value)
    (pick (eqb form 1) (bit k old && not (bit k value))
    (pick (eqb form 2) (bit k old || bit k value)
    (pick (bit k old) (not (bit k value)) (bit k value))))
wanted_bit_lem form old value k = go (eqb form 0) (eqb form 1) (eqb form 2)
  where
    inverts : (a b : Bool) → xor a b ≡ pick a (not b) b
    inverts true b = refl
    inverts false b = refl

    go : (plain clear set : Bool) → bit k (pick plain value (pick clear (clear_of old value) (pick set (bit_or old value) (bit_xor old value))))
        ≡ pick plain (bit k value)
        (pick clear (bit k old && not (bit k value))
        (pick set (bit k old || bit k value)
        (pick (bit k old) (not (bit k value)) (bit k value))))
    go true clear set = refl
    go false true set = clear_bit k old value
    go false false true = bit-or k old value
    go false false false = bit-xor k old value ∙ inverts (bit k old) (bit k value)

module _ (d : Device) (k : ℕ) where
  abbrev con : ℕ
  con = d.nvmcon.0

  abbrev pwp : ℕ
  pwp = d.nvmpwp.0

  abbrev bwp : ℕ
  bwp = d.nvmbwp.0

  abbrev con2 : ℕ
  con2 = d.nvmcon2.0

  -- the fields of the masks
  swaps : bit k 0xC0 ≡ (eqb k 7 || eqb k 6)
  swaps = fields 0x80 0x40 k (one_bit 7 k) (one_bit 6 k)

  lower : bit k 0x9F00 ≡ (eqb k 15 || (leb 8 k && leb k 12))
  lower = fields 0x8000 0x1F00 k (one_bit 15 k) (field_ones 8 12 k)

  upper : bit k 0x9F ≡ (eqb k 7 || leb k 4)
  upper = fields 0x80 0x1F k (one_bit 7 k) (low_ones 4 k)

  keyed : bit k 0x1F_B000 ≡ ((leb 16 k && leb k 20) || (eqb k 15 || (eqb k 13 || eqb k 12)))
  keyed = fields 0x1F_0000 0xB000 k (field_ones 16 20 k) (fields 0x8000 0x3000 k (one_bit 15 k) (fields 0x2000 0x1000 k (one_bit 13 k) (one_bit 12 k)))

  -- "WREN: always", "NVMOP: WREN = 0", "PFSWAP, BFSWAP: WREN = 0, SWAPLOCK = 0, key open"
  pub con_takes_bit : bit k (con_takes_of d)
      ≡ (eqb k 14
      || (not (bit 14 con) && (leb k 3 || ((eqb k 7 || eqb k 6) && (not (bit 7 con2) && (not (bit 6 con2) && is_open d))))))
  unfolding con_takes_of
  con_takes_bit =
      rw (has_bit 14 con, has_or con2 0x80 0x40, has_bit 7 con2, has_bit 6 con2) (go (bit 14 con) (bit 7 con2) (bit 6 con2) (is_open d))
    where
      low : bit k 0x400F ≡ (eqb k 14 || leb k 3)
      low = fields 0x4000 0xF k (one_bit 14 k) (low_ones 3 k)

      go : (e s t o : Bool) → bit k (WREN + pick e 0 NVMOP + pick e 0 (pick (s || t) 0 (pick o (PFSWAP + BFSWAP) 0)))
          ≡ (eqb k 14 || (not e && (leb k 3 || ((eqb k 7 || eqb k 6) && (not s && (not t && o))))))
      go true s t o = simp or-false (one_bit 14 k)
      go false true t o = simp (and-false, or-false) low
      go false false true o = simp (and-false, or-false) low
      go false false false false = simp (and-false, or-false) low
      go false false false true = simp and-true (fields 0x4000 0xCF k (one_bit 14 k) (fields 0xF 0xC0 k (low_ones 3 k) swaps))

  -- "key open; .. the fields under a lock bit need it to be 1"
  pub pwp_takes_bit : bit k (pwp_takes_of d) ≡ (is_open d && (bit 31 pwp && (eqb k 31 || leb k 23)))
  unfolding pwp_takes_of
  pwp_takes_bit = rw (has_bit 31 pwp) (go (is_open d) (bit 31 pwp))
    where
      go : (o l : Bool) → bit k (pick o (pick l 0x80FF_FFFF 0) 0) ≡ (o && (l && (eqb k 31 || leb k 23)))
      go true true = fields 0x8000_0000 0xFF_FFFF k (one_bit 31 k) (low_ones 23 k)
      go true false = bit_zero k
      go false l = bit_zero k

  pub bwp_takes_bit : bit k (bwp_takes_of d)
      ≡ (is_open d && ((bit 15 bwp && (eqb k 15 || (leb 8 k && leb k 12))) || (bit 7 bwp && (eqb k 7 || leb k 4))))
  unfolding bwp_takes_of
  bwp_takes_bit = rw (has_bit 15 bwp, has_bit 7 bwp) (go (is_open d) (bit 15 bwp) (bit 7 bwp))
    where
      go : (o l u : Bool) → bit k (pick o (pick l 0x9F00 0 + pick u 0x9F 0) 0)
          ≡ (o && ((l && (eqb k 15 || (leb 8 k && leb k 12))) || (u && (eqb k 7 || leb k 4))))
      go true true true = fields 0x9F00 0x9F k lower upper
      go true true false = simp or-false lower
      go true false true = upper
      go true false false = bit_zero k
      go false l u = bit_zero k

  -- "NVMWS, NVMLPRD, NVMCRD, NVMVRD need the key; SWAPLOCK needs SWAPLOCK other than 3"
  pub con2_takes_bit : bit k (con2_takes_of d)
      ≡ ((leb 28 k && leb k 31)
      || ((eqb k 9 || eqb k 8)
      || ((is_open d && ((leb 16 k && leb k 20) || (eqb k 15 || (eqb k 13 || eqb k 12))))
      || ((eqb k 7 || eqb k 6) && not (bit 7 con2 && bit 6 con2)))))
  unfolding con2_takes_of
  con2_takes_bit =
      rw (both_bits 6 con2)
      (ap (bit k) (sum (is_open d) (bit 7 con2 && bit 6 con2))
      ∙ fields 0xF000_0000 _ k (field_ones 28 31 k)
      (fields 0x300 _ k (fields 0x200 0x100 k (one_bit 9 k) (one_bit 8 k))
      (fields _ _ k (by_key (is_open d)) (unlocked (bit 7 con2 && bit 6 con2)))))
    where
      sum : (o l : Bool) → 0xF000_0300 + pick o 0x1F_B000 0 + pick l 0 0xC0
          ≡ bit_or 0xF000_0000 (bit_or 0x300 (bit_or (pick o 0x1F_B000 0) (pick l 0 0xC0)))
      sum true true = refl
      sum true false = refl
      sum false true = refl
      sum false false = refl

      by_key : (o : Bool) → bit k (pick o 0x1F_B000 0) ≡ (o && ((leb 16 k && leb k 20) || (eqb k 15 || (eqb k 13 || eqb k 12))))
      by_key true = keyed
      by_key false = bit_zero k

      unlocked : (l : Bool) → bit k (pick l 0 0xC0) ≡ ((eqb k 7 || eqb k 6) && not l)
      unlocked true = simp and-false (bit_zero k)
      unlocked false = simp and-true swaps
