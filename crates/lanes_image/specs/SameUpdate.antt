-- The update from an image that was stored in byte lanes. Assumes nothing.
use Rattle.std.specs.Prelude.{◌≡◌, List, ℕ}
use Rattle.geometry.specs.declared.banks.Geometry.{Geometry}
use Rattle.device.specs.State.{State}
use Rattle.update.specs.PowerFail.{Words}
use Rattle.update.specs.Start.{start_of}
use Rattle.update.specs.Turn.{turn_of}
use Rattle.lanes.specs.Lanes.{lanes_out_of, lanes_back_of}
use Rattle.lanes.specs.ImageBytes.{bytes_of, words_of}

-- an image "stored this way" and "taken back"
abbrev pub taken_back_of : List ℕ → List ℕ
taken_back_of image = words_of (lanes_back_of (lanes_out_of (bytes_of image)))

-- "An image stored this way gives the same update when taken back.": its start, and each of its turns
pub record SameUpdate : Type 0 where
  pub start : (g : Geometry) (s : State) (image : List ℕ) → Words image → start_of g s (taken_back_of image) ≡ start_of g s image
  pub turn : (g : Geometry) (s : State) (image sram : List ℕ) (place : ℕ) → Words image
      → turn_of g s (taken_back_of image) sram place ≡ turn_of g s image sram place
