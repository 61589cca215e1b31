-- The hypotheses of Progress are met: two signs with the state of Example. Assumes nothing.
use Rattle.std.specs.Prelude.{ℕ, ◌*◌, ◌<◌, ◌≡◌, List, [], ◌∷◌, ◌++◌}
use Rattle.geometry.specs.Banks.{bank_words_of}
use Rattle.update.specs.Bench.{smallest}
use Rattle.update.specs.Example.{example_state, example_image}
use Rattle.row_signs.specs.declared.sign.Sign.{Sign}
use Rattle.row_signs.specs.Signs.{sign_at}
use Rattle.row.specs.Row.{Call, row_of, fresh_of}
use Rattle.row.specs.Progress.{Fresh}

-- both banks of one sign and then both of the other
abbrev pub example_store : List ℕ
example_store = example_state.one ++ example_state.two ++ example_state.one ++ example_state.two

-- a sign at place 0 whose banks are these two of the store
abbrev pub example_sign : ℕ → ℕ → Sign
example_sign first second =
    record { device = example_state.device; place = 0; one = first * bank_words_of smallest; two = second * bank_words_of smallest }

abbrev pub example_signs : List Sign
example_signs = example_sign 0 1 ∷ example_sign 2 3 ∷ []

-- a supply that bears one sign with WR set, and no SRAM
abbrev pub example_call : Call
example_call = record { k = 1; image = example_image; sram = [] }

pub record TwoSigns : Type 0 where
  pub fresh : Fresh smallest example_image example_signs example_store (λ i. example_call)
  -- 2 × 252 calls finish both
  pub finish : (j : ℕ) → j < 2 → (sign_at (row_of smallest (fresh_of example_signs example_store) (λ i. example_call) 504).signs j).place ≡ 252
