-- "Registers": the named bits and fields, and the table of eleven rows. Assumes nothing.
use Rattle.std.specs.Prelude.{ℕ, Bool, List, [], ◌∷◌, eqb, get_or}
use Rattle.std.specs.Int.Bits.{bit_and}

-- "NVMCON: WR 15, WREN 14, WRERR 13, LVDERR 12, PFSWAP 7, BFSWAP 6, NVMOP 3 to 0."
abbrev pub WR : ℕ
WR = 0x8000

abbrev pub WREN : ℕ
WREN = 0x4000

abbrev pub WRERR : ℕ
WRERR = 0x2000

abbrev pub LVDERR : ℕ
LVDERR = 0x1000

abbrev pub PFSWAP : ℕ
PFSWAP = 0x80

abbrev pub BFSWAP : ℕ
BFSWAP = 0x40

abbrev pub NVMOP : ℕ
NVMOP = 0xF

-- "NVMPWP: PWPULOCK 31, PWP 23 to 0."
abbrev pub PWPULOCK : ℕ
PWPULOCK = 0x8000_0000

abbrev pub PWP : ℕ
PWP = 0xFF_FFFF

-- "NVMBWP: LBWPULOCK 15, LBWP 12 to 8, UBWPULOCK 7, bit 6 always 1, UBWP 4 to 0."
abbrev pub LBWPULOCK : ℕ
LBWPULOCK = 0x8000

abbrev pub LBWP : ℕ
LBWP = 0x1F00

abbrev pub UBWPULOCK : ℕ
UBWPULOCK = 0x80

abbrev pub ALWAYS : ℕ
ALWAYS = 0x40

abbrev pub UBWP : ℕ
UBWP = 0x1F

-- "NVMCON2: NVMERS 31 to 28, NVMWS 20 to 16, NVMLPRD 15, NVMCRD 13, NVMVRD 12, NVMRETRY 9 to 8, SWAPLOCK 7 to 6."
abbrev pub NVMERS : ℕ
NVMERS = 0xF000_0000

abbrev pub NVMWS : ℕ
NVMWS = 0x1F_0000

abbrev pub NVMLPRD : ℕ
NVMLPRD = 0x8000

abbrev pub NVMCRD : ℕ
NVMCRD = 0x2000

abbrev pub NVMVRD : ℕ
NVMVRD = 0x1000

abbrev pub NVMRETRY : ℕ
NVMRETRY = 0x300

abbrev pub SWAPLOCK : ℕ
SWAPLOCK = 0xC0

-- "Reset values and implemented masks stand in one table of eleven rows."
abbrev pub masks : List ℕ
masks =
    0xF0CF
    ∷ 0
    ∷ 0xFFFF_FFFF
    ∷ 0xFFFF_FFFF
    ∷ 0xFFFF_FFFF
    ∷ 0xFFFF_FFFF
    ∷ 0xFFFF_FFFF
    ∷ 0xFFFF_FFFF
    ∷ 0x80FF_FFFF
    ∷ 0x9FDF
    ∷ 0xF01F_B3C0
    ∷ []

abbrev pub resets : List ℕ
resets = 0 ∷ 0 ∷ 0 ∷ 0 ∷ 0 ∷ 0 ∷ 0 ∷ 0 ∷ 0x8000_0000 ∷ 0x9FDF ∷ 0x001F_0000 ∷ []

-- a value of a register has no bit outside its mask
abbrev pub within_of : ℕ → ℕ → Bool
within_of register value = eqb (bit_and value (get_or masks register 0)) value
