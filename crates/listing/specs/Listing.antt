-- The whole listing of a stream of bytes (01, "Bench cases"), and what the lister does with each piece of it.
-- Assumes nothing.
use Rattle.std.specs.Prelude.{ℕ, ◌+◌, ◌*◌, ◌≡◌, List, [], ◌∷◌, ◌++◌, length, Some, None}
use Rattle.rig.specs.declared.Rig.{Rig}
use Rattle.rig.specs.Words.{take_of}
use Rattle.rig.specs.Start.{start_rig}
use Rattle.listing.specs.Shapes.{Lone}
use Rattle.listing.specs.declared.Lister.{Lister}
use Rattle.listing.specs.declared.Listed.{Listed}
use Rattle.base.specs.Ascii.{ascii}
use Rattle.lines.specs.Text.{lines_of}
use Rattle.last_line.specs.LastLine.{last_line}

-- the first line
abbrev pub first_line : List ℕ
first_line = ascii "word answer\n"

-- a lone last byte prints "odd byte"
abbrev pub odd_line : List ℕ
odd_line = ascii "odd byte\n"

-- Words are read high byte first.
abbrev pub word_of : ℕ → ℕ → ℕ
word_of high low = high * 256 + low

-- From a rig on: the lines of each word in order, as the rig replies to it; a lone last byte prints "odd byte" before the last line. A block that
-- still waits at the end prints nothing.
abbrev pub listing_from : Rig → List ℕ → List ℕ
listing_from rig [] = last_line rig.faults
listing_from rig (b ∷ []) = odd_line ++ last_line rig.faults
listing_from rig (high ∷ low ∷ bytes) =
    lines_of (word_of high low) (take_of rig (word_of high low)).reply ++ listing_from (take_of rig (word_of high low)).rig bytes

-- The listing of a stream: the first line, then the words from the start of the rig on.
abbrev pub listing_of : List ℕ → List ℕ
listing_of bytes = first_line ++ listing_from start_rig bytes

-- The lister has a rig, and the high byte of a word whose low byte has not come.
abbrev pub lister : Rig → Lone → Lister
lister rig lone = record { rig = rig; lone = lone }

abbrev pub start_lister : Lister
start_lister = lister start_rig None

-- One byte: it waits for its low byte, or completes a word, whose lines it brings.
abbrev pub fed_lone : Rig → Lone → ℕ → Lister
fed_lone rig None b = lister rig (Some b)
fed_lone rig (Some h) b = lister (take_of rig (word_of h b)).rig None

abbrev pub said_lone : Rig → Lone → ℕ → List ℕ
said_lone rig None b = []
said_lone rig (Some h) b = lines_of (word_of h b) (take_of rig (word_of h b)).reply

unfoldable pub fed_byte : Lister → ℕ → Lister
fed_byte l b = fed_lone l.rig l.lone b

unfoldable pub said_byte : Lister → ℕ → List ℕ
said_byte l b = said_lone l.rig l.lone b

-- A piece of the stream: the bytes in order.
abbrev pub fed : Lister → List ℕ → Lister
fed l [] = l
fed l (b ∷ bytes) = fed (fed_byte l b) bytes

abbrev pub said : Lister → List ℕ → List ℕ
said l [] = []
said l (b ∷ bytes) = said_byte l b ++ said (fed_byte l b) bytes

-- The end of the stream.
abbrev pub odd_of : Lone → List ℕ
odd_of None = []
odd_of (Some h) = odd_line

abbrev pub end_of : Lister → List ℕ
end_of l = odd_of l.lone ++ last_line l.rig.faults

-- A stream that comes in pieces: the text of each piece, from where the one before left the lister, and then the end.
abbrev pub joined : List (List ℕ) → List ℕ
joined [] = []
joined (piece ∷ pieces) = piece ++ joined pieces

abbrev pub listed_from : Lister → List (List ℕ) → List ℕ
listed_from l [] = end_of l
listed_from l (piece ∷ pieces) = said l piece ++ listed_from (fed l piece) pieces

-- In whatever pieces a stream comes, the first line, the texts of its pieces and the end are the listing of the whole stream.
abbrev pub InPieces : Type 0
InPieces = (pieces : List (List ℕ)) → first_line ++ listed_from start_lister pieces ≡ listing_of (joined pieces)

-- the answer for a text on a page: the lister, and how long the text is
abbrev pub listed : Lister → List ℕ → Listed
listed l text = record { lister = l; len = length text }
