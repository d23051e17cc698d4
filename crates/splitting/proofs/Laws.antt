-- The words of a line are what its spaces part, without the parts that are empty.
-- Assumes nothing.
use mathlib.Core.Path.{◌≡◌, refl, sym, ap, ◌∙◌}
use mathlib.Core.List.{List, [], ◌∷◌, ◌++◌, append_assoc, append-nil}
use Prim.Native.Nat.{ℕ}
use lib.Dec.{eqb}
use denote.Ref.{Bor}
use lib.ListN.{length, get_or}
use Rattle.std.specs.Prelude.{Option, Some, None}
use Rattle.std.specs.Option.{option_map, unwrap_or}
use Rattle.std.specs.List.{filter, slice_get, slice_split, onto_first}
use Rattle.std.proofs.lemmas.Option.{unwrap_or-slice_get}
use Rattle.base.proofs.Cases.{split}
use Rattle.splitting.specs.Words.{space, is_space, is_word, stretches, words_of}

-- bytes in front of the first part
abbrev onto : List ℕ → List (List ℕ) → List (List ℕ)
onto held [] = held ∷ []
onto held (part ∷ parts) = (held ++ part) ∷ parts

onto_more : (held : List ℕ) (b : ℕ) (parts : List (List ℕ)) → onto held (onto_first b parts) ≡ onto (held ++ (b ∷ [])) parts
onto_more held b [] = refl
onto_more held b (part ∷ parts) = rw (append_assoc held (b ∷ []) part)

none_onto : (b : ℕ) (parts : List (List ℕ)) → onto [] (onto_first b parts) ≡ onto_first b parts
none_onto b [] = refl
none_onto b (part ∷ parts) = refl

onto_none : (line : List ℕ) → onto [] (slice_split is_space line) ≡ slice_split is_space line
onto_none [] = refl
onto_none (b ∷ line) = split (eqb b space) (λ e. simp e) (λ e. simp e (none_onto b (slice_split is_space line)))

parted : (line held : List ℕ) → stretches held line ≡ filter is_word (onto held (slice_split is_space line))
parted [] held = rw (append-nil held) (split (eqb (length held) 0) (λ e. simp e) (λ e. simp e))
parted (b ∷ line) held =
    split (eqb b space)
    (λ e.
    let i = parted line [] ∙ ap (filter is_word) (onto_none line) in
    split (eqb (length held) 0) (λ f. simp (e, f, append-nil, i)) (λ f. simp (e, f, append-nil, i)))
    (λ e. simp e (parted line (held ++ (b ∷ [])) ∙ ap (filter is_word) (sym (onto_more held b (slice_split is_space line)))))

pub words_are : (line : List ℕ) → filter is_word (slice_split is_space line) ≡ words_of line
words_are line = sym (parted line [] ∙ ap (filter is_word) (onto_none line))

-- of what a chain gives, the one asked for; none past the last
behind : (r : Option (Bor (List ℕ))) (d : Bor (List ℕ)) → (unwrap_or r d).now ≡ unwrap_or (option_map (λ (x : Bor (List ℕ)). x.now) r) d.now
behind None d = refl
behind (Some x) d = refl

pub picked : (r : Option (Bor (List ℕ))) (d y : Bor (List ℕ)) (all words : List (List ℕ)) (n k : ℕ)
    → option_map (λ (x : Bor (List ℕ)). x.now) r ≡ slice_get all n → all ≡ words → y ≡ unwrap_or r d → d.now ≡ [] → n ≡ k → y.now ≡ get_or words k []
picked r d y all words n k m w h e f =
    ap (λ (x : Bor (List ℕ)). x.now) h ∙ behind r d ∙ rw (e, m, f, w) (unwrap_or-slice_get words k [])
