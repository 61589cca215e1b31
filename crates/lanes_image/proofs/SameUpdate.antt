-- The image that is taken back is the image itself. Assumes nothing.
use mathlib.Core.Path.{◌≡◌}
use mathlib.Core.List.{List}
use Prim.Native.Nat.{ℕ}
use lib.ListN.{length}
use Rattle.update.specs.PowerFail.{Words}
use Rattle.lanes.specs.ImageBytes.{bytes_of}
use Rattle.lanes.proofs.RoundTrip.{round_trip}
use Rattle.lanes_image.specs.SameUpdate.{taken_back_of, SameUpdate}

taken_back : (image : List ℕ) → Words image → taken_back_of image ≡ image
taken_back image words =
    rw (round_trip.back_restores (length image) (bytes_of image) (round_trip.bytes_length image)) (round_trip.words_back image words)

pub same_update : SameUpdate
same_update =
    record {
      start = λ g s image words. rw (taken_back image words);
      turn = λ g s image sram place words. rw (taken_back image words);
    }
