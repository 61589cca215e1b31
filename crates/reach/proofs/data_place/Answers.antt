-- The numbers are small, since the place is one of the update's.
use Rattle.std.proofs.Common.{ℕ, ◌+◌, ◌*◌, ◌/◌, ◌<◌, ◌≡◌, arith}
use Rattle.geometry.specs.declared.banks.Geometry.{Geometry}
use Rattle.geometry.specs.Banks.{InRange, pages_of, page_quads_of, bank_words_of}
use Rattle.update.proofs.FormLaws.{total_high}
use Rattle.update.proofs.PlaceLaws.{total_place}
use Rattle.reach.specs.Reach.{programmed_at_of}
use Rattle.reach.proofs.OrderLaws.{quad_below, at_below}
use Rattle.reach.proofs.data_place.Goals as goal

-- where the programming of a word's quad starts, by the sizes and the quad's number in the order
place_few : (g : Geometry) → InRange g → (i : ℕ) → i < bank_words_of g → (pages quads number : ℕ)
    → pages ≡ pages_of g → quads ≡ page_quads_of g → number ≡ programmed_at_of g (i / 4)
    → 12 + pages * (8 + quads) + number * 13 < 2000000
place_few g ok i l pages quads number p q n =
    rw (p, q, n) (omega (arith, total_place g, total_high g ok, at_below g (i / 4) (quad_below g i l)))

pub overflow_mul-result : goal.overflow_mul-result
overflow_mul-result c =
    let few = place_few c.args.layout.geometry c.args.layout.in_range c.args.i c.requires _ _ _ c.pages.ensures c.page_quads.ensures c.programmed_at.ensures in
    record { fits = omega (arith, few) }

pub overflow_add-result : goal.overflow_add-result
overflow_add-result c =
    let few = place_few c.args.layout.geometry c.args.layout.in_range c.args.i c.requires _ _ _ c.pages.ensures c.page_quads.ensures c.programmed_at.ensures in
    record { fits = omega (arith, few) }

pub overflow_add-result-3 : goal.overflow_add-result-3
overflow_add-result-3 c =
    let few = place_few c.args.layout.geometry c.args.layout.in_range c.args.i c.requires _ _ _ c.pages.ensures c.page_quads.ensures c.programmed_at.ensures in
    record { fits = omega (arith, few) }
