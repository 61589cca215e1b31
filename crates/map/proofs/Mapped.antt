-- Each offset of a window is a byte of the word that the map gives, and every address inside is such an offset. Assumes nothing.
use mathlib.Core.Path.{◌≡◌, refl, sym, subst}
use mathlib.Core.Bool.{Bool, true, false}
use Prim.Native.Nat.{ℕ, ◌+◌, ◌<◌}
use Rattle.geometry.specs.declared.banks.Geometry.{Geometry}
use Rattle.geometry.specs.Banks.{InRange}
use Rattle.geometry.proofs.SizeLaws.{in-range}
use Rattle.map.specs.Windows.{window_start_of, window_bytes_of, located, locate_of, word_index_of, in_second_of}
use Rattle.map.specs.Mapped.{Mapped, MapOf}
use Rattle.map.specs.Mapped.Mapped.{lower_boot_lem, upper_boot_lem, lower_program_lem, upper_program_lem}
use Rattle.map.proofs.WindowLaws.{window_found, stands}

module _ (g : Geometry) (bfswap pfswap : Bool) where
  pub at_offset : (program upper : Bool) (o : ℕ) → o < window_bytes_of g program
      → Mapped g bfswap pfswap (window_start_of g program upper + o) (in_second_of (located program upper o) bfswap pfswap)
      (word_index_of g (located program upper o))
  at_offset false false o h = lower_boot_lem o h
  at_offset false true o h = upper_boot_lem o h
  at_offset true false o h = lower_program_lem o h
  at_offset true true o h = upper_program_lem o h

  module _ (ok : InRange g) where
    found : (a : ℕ) → (locate_of g a).inside ≡ true
        → Mapped g bfswap pfswap a (in_second_of (locate_of g a) bfswap pfswap) (word_index_of g (locate_of g a))
    found a h =
        let l = locate_of g a in
        let s = stands g ok a h in
        subst (λ (x : ℕ). Mapped g bfswap pfswap x (in_second_of l bfswap pfswap) (word_index_of g l)) (sym s.address)
        (at_offset l.program l.upper l.offset s.room)

    pub only : (a : ℕ) (second : Bool) (w : ℕ) → Mapped g bfswap pfswap a second w
        → ((locate_of g a).inside ≡ true) × ((in_second_of (locate_of g a) bfswap pfswap ≡ second) × (word_index_of g (locate_of g a) ≡ w))
    only _ _ _ (lower_boot_lem o h) = rw (window_found g ok false false o h) (refl, (refl, refl))
    only _ _ _ (upper_boot_lem o h) = rw (window_found g ok false true o h) (refl, (refl, refl))
    only _ _ _ (lower_program_lem o h) = rw (window_found g ok true false o h) (refl, (refl, refl))
    only _ _ _ (upper_program_lem o h) = rw (window_found g ok true true o h) (refl, (refl, refl))

pub mapped : MapOf
mapped g listed bfswap pfswap = record { found = found g bfswap pfswap (in-range g listed); only = only g bfswap pfswap (in-range g listed) }
