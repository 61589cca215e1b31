-- "Registers" and "Launch and flash steps": registers, forms, keys and operations by their numbers. Assumes nothing.
use Rattle.std.specs.Prelude.{ℕ}

-- the registers by number: 0 NVMCON, 1 NVMKEY, 2 NVMADDR, 3 to 6 NVMDATA0 to 3, 7 NVMSRCADDR, 8 NVMPWP, 9 NVMBWP, 10 NVMCON2
abbrev pub NVMCON : ℕ
NVMCON = 0

abbrev pub NVMKEY : ℕ
NVMKEY = 1

abbrev pub NVMADDR : ℕ
NVMADDR = 2

abbrev pub NVMDATA0 : ℕ
NVMDATA0 = 3

abbrev pub NVMDATA1 : ℕ
NVMDATA1 = 4

abbrev pub NVMDATA2 : ℕ
NVMDATA2 = 5

abbrev pub NVMDATA3 : ℕ
NVMDATA3 = 6

abbrev pub NVMSRCADDR : ℕ
NVMSRCADDR = 7

abbrev pub NVMPWP : ℕ
NVMPWP = 8

abbrev pub NVMBWP : ℕ
NVMBWP = 9

abbrev pub NVMCON2 : ℕ
NVMCON2 = 10

-- "form 0 plain, 1 clear, 2 set or 3 invert"
abbrev pub plain : ℕ
plain = 0

abbrev pub clear : ℕ
clear = 1

abbrev pub set : ℕ
set = 2

abbrev pub invert : ℕ
invert = 3

-- "stores of 0, 0xAA996655, 0x556699AA to NVMKEY raise the key step to 1, 2, 3"
abbrev pub key1 : ℕ
key1 = 0

abbrev pub key2 : ℕ
key2 = 0xAA99_6655

abbrev pub key3 : ℕ
key3 = 0x5566_99AA

-- NVMOP 0, which clears the errors; "2 quad, 3 row, 4 page erase", "5 lower region, 6 upper region", "7 both"
abbrev pub no_operation : ℕ
no_operation = 0

abbrev pub quad_program : ℕ
quad_program = 2

abbrev pub row_program : ℕ
row_program = 3

abbrev pub page_erase : ℕ
page_erase = 4

abbrev pub lower_erase : ℕ
lower_erase = 5

abbrev pub upper_erase : ℕ
upper_erase = 6

abbrev pub both_erase : ℕ
both_erase = 7
