-- The lister's law: in whatever pieces a stream comes, the first line, the texts of the pieces and the end are the listing of the stream.
-- Assumes nothing.
use Rattle.std.specs.Prelude.{None}
use mathlib.Core.Path.{◌≡◌, refl, sym, ap, ◌∙◌}
use mathlib.Core.List.{List, [], ◌∷◌, ◌++◌, append_assoc}
use Prim.Native.Nat.{ℕ}
use lib.ListN.{length, take, drop}
use lib.Seq.{take-append_seam}
use Rattle.rig.specs.declared.Rig.{Rig}
use Rattle.rig.specs.Words.{take_of}
use Rattle.rig.specs.Start.{start_rig}
use Rattle.listing.specs.declared.Lister.{Lister}
use Rattle.lines.specs.Text.{lines_of}
use Rattle.listing.specs.Listing.{word_of, first_line, listing_from, listing_of, lister, start_lister, fed_byte, said_byte, fed, said, end_of}
use Rattle.listing.specs.Listing.{joined, listed_from, InPieces}
use Rattle.listing.specs.Front.{at_front}
use Rattle.listing.proofs.Pieces.{fed_append, said_append}

-- a stream that begins with no byte waiting
even : (rig : Rig) (bytes : List ℕ) → said (lister rig None) bytes ++ end_of (fed (lister rig None) bytes) ≡ listing_from rig bytes
unfolding fed_byte said_byte
even rig [] = refl
even rig (b ∷ []) = refl
even rig (h ∷ l ∷ bytes) =
    append_assoc (lines_of (word_of h l) (take_of rig (word_of h l)).reply) _ _
    ∙ ap (λ (r : List ℕ). lines_of (word_of h l) (take_of rig (word_of h l)).reply ++ r) (even (take_of rig (word_of h l)).rig bytes)

-- a stream in one piece
pub whole : (bytes : List ℕ) → first_line ++ (said start_lister bytes ++ end_of (fed start_lister bytes)) ≡ listing_of bytes
whole bytes = ap (λ (r : List ℕ). first_line ++ r) (even start_rig bytes)

-- what a caller finds at the front of the page is the text
pub shown : (text page : List ℕ) → take (length text) (at_front text page) ≡ text
shown text page = take-append_seam text (drop (length text) page)

-- pieces are listed as the stream that they make
together : (l : Lister) (pieces : List (List ℕ)) → listed_from l pieces ≡ said l (joined pieces) ++ end_of (fed l (joined pieces))
together l [] = refl
together l (p ∷ pieces) =
    ap (λ (r : List ℕ). said l p ++ r) (together (fed l p) pieces)
    ∙ rw (said_append, fed_append) (sym (append_assoc (said l p) (said (fed l p) (joined pieces)) _))

pub in_pieces : InPieces
in_pieces pieces = ap (λ (r : List ℕ). first_line ++ r) (together start_lister pieces) ∙ whole (joined pieces)
