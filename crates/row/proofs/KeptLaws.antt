-- What no call, read, reset or start-up of a row's signs changes: how many they are, where their banks lie, and the words outside all of them. Assumes nothing.
use Prim.Native.Nat.{ℕ, ◌<◌}
use mathlib.Core.Path.{◌≡◌, refl, ◌∙◌}
use native.Mathlib.Omega.{arith}
use lib.ListN.{length, get_or}
use Rattle.geometry.specs.declared.banks.Geometry.{Geometry}
use Rattle.row_signs.specs.Signs.{sign_at}
use Rattle.row.specs.Row.{RowState}
use Rattle.row.specs.Supply.{OutsideBanks}
use Rattle.row.specs.RowCut.{Placed}

-- word v lies outside the banks of every sign
abbrev pub OutsideRow : Geometry → RowState → ℕ → Type 0
OutsideRow g r v = (j : ℕ) → j < length r.signs → OutsideBanks g (sign_at r.signs j) v

pub record Kept (g : Geometry) (r t : RowState) : Type 0 where
  pub listed : length t.signs ≡ length r.signs
  pub long : length t.store ≡ length r.store
  pub starts : (j : ℕ) → ((sign_at t.signs j).one ≡ (sign_at r.signs j).one) × ((sign_at t.signs j).two ≡ (sign_at r.signs j).two)
  pub words : (v : ℕ) → OutsideRow g r v → get_or t.store v 0 ≡ get_or r.store v 0

module _ {g : Geometry} {r : RowState} where
  pub kept_same : Kept g r r
  kept_same = record { listed = refl; long = refl; starts = λ j. (refl, refl); words = λ v out. refl }

  module _ {t : RowState} (kept : Kept g r t) where
    pub still_listed : {j : ℕ} → j < length r.signs → j < length t.signs
    still_listed l = omega (arith, l, kept.listed)

    was_listed : {j : ℕ} → j < length t.signs → j < length r.signs
    was_listed l = omega (arith, l, kept.listed)

    -- the banks lie in the store, and apart
    pub still_placed : Placed g r → Placed g t
    still_placed placed =
        record {
          lies =
              λ j l.
              let there = placed.lies j (was_listed l) in
              record {
                first = rw ((kept.starts j).0, kept.long) there.first;
                other = rw ((kept.starts j).1, kept.long) there.other;
                apart = rw ((kept.starts j).0, (kept.starts j).1) there.apart;
              };
          apart =
              λ i j l m differs.
              let there = placed.apart i j (was_listed l) (was_listed m) differs in
              record {
                one_one = rw ((kept.starts i).0, (kept.starts j).0) there.one_one;
                one_two = rw ((kept.starts i).0, (kept.starts j).1) there.one_two;
                two_one = rw ((kept.starts i).1, (kept.starts j).0) there.two_one;
                two_two = rw ((kept.starts i).1, (kept.starts j).1) there.two_two;
              };
        }

    still_outside : (v : ℕ) → OutsideRow g r v → OutsideRow g t v
    still_outside v out j l = rw ((kept.starts j).0, (kept.starts j).1) (out j (was_listed l))

    -- one after another
    pub kept_then : {u : RowState} → Kept g t u → Kept g r u
    kept_then next =
        record {
          listed = next.listed ∙ kept.listed;
          long = next.long ∙ kept.long;
          starts = λ j. ((next.starts j).0 ∙ (kept.starts j).0, (next.starts j).1 ∙ (kept.starts j).1);
          words = λ v out. next.words v (still_outside v out) ∙ kept.words v out;
        }
