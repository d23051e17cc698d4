-- The IFFT block, bytes 20h-11Fh (01, "Data blocks" and 24 of "What the numbers mean"; G 2.2.1 and 2.2.3).
-- Assumes nothing.
use Rattle.std.specs.Prelude.{Bool, true, false, not, ◌||◌, List, [], ◌∷◌, ◌++◌, ℕ, ◌+◌, ◌*◌, ◌%◌, eqb, leb, ltb, get_or, Ok, Err}
use Rattle.std.specs.Int.Count.{ones}
use Rattle.block.specs.declared.Refusal.TheVariants.{Beyond, NotIfft}
use Rattle.block.specs.declared.Kind.{Kind}
use Rattle.block.specs.declared.Kind.TheVariants.{Nm, Bm1}
use Rattle.block.specs.Refusals.{Tests, unless}
use Rattle.block.specs.Layout.{bit, kind_of, first, block_tests}
use Rattle.event.specs.Shapes.{Evented}
use Rattle.event.specs.declared.MatrixItem.{MatrixItem}
use Rattle.event.specs.Shapes.{Itemed}
use Rattle.event.specs.Event.{event_at}

abbrev pub is_nm : Kind → Bool
is_nm Nm = true
is_nm Bm1 = false

-- byte 5, the spin counter, is 5, 7, 9 (from 5: events) or 6, 8, 10 (from 6: matrix)
abbrev pub turn : ℕ → ℕ → Bool
turn from spin = eqb spin from || eqb spin (from + 2) || eqb spin (from + 4)

-- 24: block not NM, descriptor 1 bit 0 clear or bit 2 set, byte 5 not the counter of such entries, or count (byte 6) over the most there can be
unfoldable pub wrong : Kind → ℕ → ℕ → ℕ → ℕ → ℕ → Bool
wrong k d1 spin count from most = not (is_nm k) || not (bit d1 0) || bit d1 2 || not (turn from spin) || ltb most count

-- 22 at or past the count; what is no block is refused before
abbrev pub ifft_tests : List ℕ → ℕ → ℕ → ℕ → Tests
ifft_tests b n from most =
    block_tests b
    ++ (wrong (kind_of b) (first b) (get_or b 5 0) (get_or b 6 0) from most, NotIfft) ∷ (leb (get_or b 6 0) n, Beyond) ∷ []

-- an event is a direct event: 85 of them at most, at 20h on
unfoldable pub event_of : List ℕ → ℕ → Evented
event_of b n = unless Err (ifft_tests b n 5 85) (Ok (event_at b (0x020 + 3 * n)))

-- a matrix item is two 16-bit words, high byte first
abbrev pub word_at : List ℕ → ℕ → ℕ
word_at b at = get_or b at 0 * 256 + get_or b (at + 1) 0

-- good exactly if the ones in the second word, top bit included, are even in number
abbrev pub item_at : List ℕ → ℕ → MatrixItem
item_at b at =
    record {
      first = word_at b at;
      second = word_at b (at + 2);
      good = eqb (ones (word_at b (at + 2)) % 2) 0;
    }

-- 64 of them at most, at 20h on
unfoldable pub item_of : List ℕ → ℕ → Itemed
item_of b n = unless Err (ifft_tests b n 6 64) (Ok (item_at b (0x020 + 4 * n)))
