-- The eleven registers, number by number, and what was launched where it is all six of them. Assumes nothing.
use mathlib.Core.Path.{◌≡◌, refl}
use Prim.Native.Nat.{ℕ, ◌<◌}
use native.Mathlib.Omega.{arith}
use Rattle.words.proofs.CaseLaws.{each}
use Rattle.device.specs.declared.record.Device.{Device}
use Rattle.device.specs.Record.{register_of, operands_of}
use Rattle.device.specs.Builders.{with_launched}
use Rattle.device.specs.ByNumber.{launched_of}

-- what holds of each register's number
pub by_register : (P : ℕ → Type 0) → P 0 → P 1 → P 2 → P 3 → P 4 → P 5 → P 6 → P 7 → P 8 → P 9 → P 10 → (r : ℕ) → r < 11 → P r
by_register P a b c d e f g h i j k r l = each P 0 11 (a, (b, (c, (d, (e, (f, (g, (h, (i, (j, (k, tt))))))))))) r (omega arith) l

pub launched_registers : (d e : Device) (q : ℕ) → 1 < q → q < 8 → launched_of (with_launched e (operands_of d)) q ≡ register_of d q
unfolding register_of
launched_registers d e =
    each (λ q. launched_of (with_launched e (operands_of d)) q ≡ register_of d q) 2 6 (refl, (refl, (refl, (refl, (refl, (refl, tt))))))
