-- Where an address stands, as the code answers. Assumes nothing.
use Rattle.std.specs.Prelude.{Option, Some, None}
use Rattle.map.specs.declared.Location as code
use Rattle.map.specs.Windows.{Location, located, nowhere}

-- inside a window
abbrev pub stands_of : code.Location → Location
stands_of l = located l.program l.upper l.offset

-- inside a window, or outside all four
abbrev pub location_of : Option code.Location → Location
location_of (Some l) = stands_of l
location_of None = nowhere
