-- What the private functions do: where an entry begins, before it is read (01, "Data blocks"). No promise cites this.
-- Assumes nothing.
use Rattle.std.specs.Prelude.{List, ℕ, ◌+◌, ◌*◌, Ok, Err}
use Rattle.block.specs.declared.Part.TheVariants.{DirectEvents}
use Rattle.block.specs.Refusals.{unless}
use Rattle.block.specs.Tables.{row_in}
use Rattle.block.specs.Layout.{kind_of}
use Rattle.event.specs.Shapes.{Entry}
use Rattle.event.specs.Event.{direct_tests}
use Rattle.event.specs.Ifft.{ifft_tests}

-- a direct event, and an entry of the IFFT block of so many bytes
unfoldable pub direct_at : List ℕ → ℕ → Entry
direct_at b n = unless Err (direct_tests b n) (Ok ((row_in (kind_of b) DirectEvents).at + 3 * n))

unfoldable pub ifft_at : List ℕ → ℕ → ℕ → ℕ → ℕ → Entry
ifft_at b n from most size = unless Err (ifft_tests b n from most) (Ok (0x020 + size * n))

-- where an entry of so many bytes ends
abbrev pub reach : Entry → ℕ → ℕ
reach (Ok at) size = at + size
reach (Err r) size = 0
