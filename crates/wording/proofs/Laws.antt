-- The laws of writing and reading (specs/Laws `WordingLaws`). What a mask leaves of a byte is computed for the 256 bytes.
-- Assumes nothing.
use Rattle.std.specs.Prelude.{Ok, Err}
use Rattle.std.proofs.Math.Bool.{and-false}
use Rattle.std.proofs.lemmas.Bool.{and_parts}
use mathlib.Core.Path.{◌≡◌, refl, sym, ap, ◌∙◌, subst}
use mathlib.Core.Bool.{Bool, true, false, ◌&&◌}
use mathlib.Core.Logic.{◌⊎◌, inl, inr}
use mathlib.Core.List.{List, [], ◌∷◌, ◌++◌}
use Prim.Native.Nat.{ℕ, ◌+◌, ◌*◌, ◌/◌, ◌%◌, ◌^◌, ◌≤◌, ◌<◌}
use native.Mathlib.Omega.{arith}
use lib.Bits.{bit_and}
use lib.Dec.{T, eqb, ltb, eqb→eq}
use lib.ListN.{length, drop}
use borrow.Author.Tests.{eq-eqb, eqb-true, lt-ltb, le-ltb, le-leb, lt-leb, ltb-false}
use Rattle.base.specs.Pick.{pick}
use Rattle.base.proofs.Cases.{split}
use Rattle.base.proofs.Table.{all_below, below}
use Rattle.crc.specs.Crc.{crc_of}
use Rattle.judge.specs.declared.Which.{Which}
use Rattle.judge.specs.declared.Which.TheVariants.{Stop, Start, Deflection}
use Rattle.judge.specs.Table.{target_code, limit_code, stepping_code, singles, blocks, named_bits, named_bits2}
use Rattle.wording.specs.declared.Command.{Command}
use Rattle.wording.specs.declared.Command.TheVariants.{Relay, Iel, HeadMask, Target, Limit, Mode, Stepping, Multiplexers, DirectionWindow, EnergyWindow}
use Rattle.wording.specs.declared.Refusal.{Refusal}
use Rattle.wording.specs.declared.Refusal.TheVariants.{TooWide, NoRoom, NotOne}
use Rattle.wording.specs.Shapes.{Meant}
use Rattle.wording.specs.Written.{settings, all_fit, fits, single_word, head_word, data_word, end_word, single, block, words_of, wrote_of, written_of}
use Rattle.wording.specs.Meaning.{single_meant, block_meant, is_block, four_meant, read_of, cleaned}
use Rattle.wording.specs.Laws.{word, OneOf, OneSingle, alone, OneBlock, whole, Wide, WordingLaws}
use Rattle.wording.proofs.Sent.{two_bits, fits_one, fits_two}

-- reading one single and one block, whatever they hold
read_single : (code low : ℕ) → low < 256 → read_of (single code low) ≡ single_meant code low
read_single code low h =
    let e : single_word code low / 256 ≡ code = omega arith in
    let f : single_word code low % 256 ≡ low = omega arith in
    rw (e, f)

module _ (code a b : ℕ) (code64 : code < 64) (la : a < 256) (lb : b < 256) where
  is_block_lem : is_block (head_word code 2) (data_word code a) (data_word code b) (end_word code (crc_of (a ∷ b ∷ []))) ≡ true
  unfolding is_block
  is_block_lem =
      let c : head_word code 2 / 256 % 64 ≡ code = omega arith in
      let ea : data_word code a % 256 ≡ a = omega arith in
      let eb : data_word code b % 256 ≡ b = omega arith in
      rw (c, ea, eb) (simp (eq-eqb (head_word code 2) (head_word code 2) refl, eq-eqb (data_word code a) (data_word code a) refl, eq-eqb (data_word code b) (data_word code b) refl, eq-eqb (end_word code (crc_of (a ∷ b ∷ []))) (end_word code (crc_of (a ∷ b ∷ []))) refl))

  read_block : read_of (block code a b) ≡ block_meant code a b
  read_block =
      let c : head_word code 2 / 256 % 64 ≡ code = omega arith in
      let ea : data_word code a % 256 ≡ a = omega arith in
      let eb : data_word code b % 256 ≡ b = omega arith in
      rw is_block_lem (rw (c, ea, eb))

-- a supply's singles, by their low byte
meant : (x : Which) (low : ℕ) → (single_meant (target_code x) low ≡ Ok (Target x (low % 16)))
    × (single_meant (limit_code x) low ≡ Ok (Limit x (low % 16))) × (single_meant (stepping_code x) low ≡ Ok (Stepping x low))
unfolding single_meant
meant Stop low = (refl, refl, refl)
meant Start low = (refl, refl, refl)
meant Deflection low = (refl, refl, refl)

back : (c : Command) → fits c ≡ true → read_of (words_of c) ≡ Ok c
unfolding single_meant block_meant
back (Relay on off) f = let h = fits_two on 2 off 2 f in two_bits (λ x y. read_of (words_of (Relay x y)) ≡ Ok (Relay x y)) refl refl refl refl on off h.0 h.1
back (Iel clock enable) f = let h = fits_two clock 2 enable 2 f in two_bits (λ x y. read_of (words_of (Iel x y)) ≡ Ok (Iel x y)) refl refl refl refl clock enable h.0 h.1
back (HeadMask mask) f = let h = fits_one mask 8 f in let e : mask % 8 ≡ mask = omega arith in read_single 0x26 mask (omega arith) ∙ rw e
back (Target x target) f =
    let h = fits_one target 16 f in
    let e : target % 16 ≡ target = omega arith in
    read_single (target_code x) target (omega arith) ∙ (meant x target).0 ∙ ap (λ (t : ℕ). Ok (Target x t)) e
back (Limit x limit) f =
    let h = fits_one limit 16 f in
    let e : limit % 16 ≡ limit = omega arith in
    read_single (limit_code x) limit (omega arith) ∙ (meant x limit).1 ∙ ap (λ (t : ℕ). Ok (Limit x t)) e
back (Mode low) f = read_single 0x2B low (fits_one low 256 f)
back (Stepping x low) f = read_single (stepping_code x) low (fits_one low 256 f) ∙ (meant x low).2
back (Multiplexers byte bit) f =
    let h = fits_two byte 256 bit 2 f in
    let e : bit % 2 ≡ bit = omega arith in
    read_block 0x20 byte bit (omega arith) h.0 (omega arith) ∙ rw e
back (DirectionWindow start stop) f =
    let h = fits_two start 32 stop 32 f in
    let e : start % 32 ≡ start = omega arith in
    let g : stop % 32 ≡ stop = omega arith in
    read_block 0x23 start stop (omega arith) (omega arith) (omega arith) ∙ rw (e, g)
back (EnergyWindow start stop) f =
    let h = fits_two start 32 stop 32 f in
    let e : start % 32 ≡ start = omega arith in
    let g : stop % 32 ≡ stop = omega arith in
    read_block 0x24 start stop (omega arith) (omega arith) (omega arith) ∙ rw (e, g)

-- what is true of words by what they mean
abbrev Good : List ℕ → Meant → Type 0
Good ws (Ok c) = (words_of c ≡ cleaned ws) × (fits c ≡ true) × (OneSingle ws ⊎ OneBlock ws)
Good ws (Err why) = why ≡ NotOne

by_pick : (P : Meant → Type 0) (t : Bool) {x y : Meant} → (t ≡ true → P x) → (t ≡ false → P y) → P (pick t x y)
by_pick P true f g = f refl
by_pick P false f g = g refl

-- what a mask leaves of a byte
masked : (f : ℕ → ℕ) (mask : ℕ) → T (all_below (λ x. eqb (f x) (bit_and x mask)) 0x100) → (x : ℕ) → x < 256 → f x ≡ bit_and x mask
masked f mask t x h = eqb→eq (f x) (bit_and x mask) (below (λ x. eqb (f x) (bit_and x mask)) 0x100 t x h)

fit_one : (a n : ℕ) → a < n → (ltb a n && true) ≡ true
fit_one a n h = rw (lt-ltb a n h)

fit_two : (a m b n : ℕ) → a < m → b < n → (ltb a m && (ltb b n && true)) ≡ true
fit_two a m b n h k = rw (lt-ltb a m h, lt-ltb b n k)

-- a single of a listed code, read as c
module _ (w code : ℕ) (c : Command) (f : ℕ → ℕ) (listed : OneOf singles code) (words : words_of c ≡ single code (f (w % 256)))
    (t : T (all_below (λ x. eqb (f x) (bit_and x (named_bits code))) 0x100)) (fit : fits c ≡ true) where
  good_single : eqb (w / 256) code ≡ true → Good (w ∷ []) (Ok c)
  good_single e =
      let h : w / 256 ≡ code = eqb-true (w / 256) code e in
      let m = masked f (named_bits code) t (w % 256) (omega arith) in
      let v : word 0 code (w % 256) ≡ w = omega arith in (
        words ∙ ap (single code) m ∙ ap (λ (k : ℕ). single k (bit_and (w % 256) (named_bits k))) (sym h),
        fit,
        inl (subst (λ (x : ℕ). OneSingle (x ∷ [])) v (alone code (w % 256) listed (omega arith))),
      )

read_one : (w : ℕ) → Good (w ∷ []) (single_meant (w / 256) (w % 256))
unfolding single_meant
read_one w =
    let low = w % 256 in
    let P = Good (w ∷ []) in
    by_pick P (eqb (w / 256) 0x08)
    (good_single w 0x08 (Relay (low / 0x02 % 2) (low / 0x20 % 2)) (λ x. x / 0x02 % 2 * 0x02 + x / 0x20 % 2 * 0x20) (inl refl) refl tt (fit_two (low / 0x02 % 2) 2 (low / 0x20 % 2) 2 (omega arith) (omega arith)))
    (λ _. by_pick P (eqb (w / 256) 0x0C)
    (good_single w 0x0C (Iel (low % 2) (low / 0x02 % 2)) (λ x. x % 2 * 0x01 + x / 0x02 % 2 * 0x02) (inr (inl refl)) refl tt (fit_two (low % 2) 2 (low / 0x02 % 2) 2 (omega arith) (omega arith)))
    (λ _. by_pick P (eqb (w / 256) 0x20)
    (good_single w 0x20 (Target Start (low % 16)) (λ x. x % 16) (inr (inr (inl refl))) refl tt (fit_one (low % 16) 16 (omega arith)))
    (λ _. by_pick P (eqb (w / 256) 0x21)
    (good_single w 0x21 (Limit Start (low % 16)) (λ x. x % 16) (inr (inr (inr (inl refl)))) refl tt (fit_one (low % 16) 16 (omega arith)))
    (λ _. by_pick P (eqb (w / 256) 0x22)
    (good_single w 0x22 (Stepping Deflection low) (λ x. x) (inr (inr (inr (inr (inl refl))))) refl tt (fit_one low 256 (omega arith)))
    (λ _. by_pick P (eqb (w / 256) 0x23)
    (good_single w 0x23 (Target Deflection (low % 16)) (λ x. x % 16) (inr (inr (inr (inr (inr (inl refl)))))) refl tt (fit_one (low % 16) 16 (omega arith)))
    (λ _. by_pick P (eqb (w / 256) 0x24)
    (good_single w 0x24 (Limit Deflection (low % 16)) (λ x. x % 16) (inr (inr (inr (inr (inr (inr (inl refl))))))) refl tt (fit_one (low % 16) 16 (omega arith)))
    (λ _. by_pick P (eqb (w / 256) 0x26)
    (good_single w 0x26 (HeadMask (low % 8)) (λ x. x % 8) (inr (inr (inr (inr (inr (inr (inr (inl refl)))))))) refl tt (fit_one (low % 8) 8 (omega arith)))
    (λ _. by_pick P (eqb (w / 256) 0x28)
    (good_single w 0x28 (Target Stop (low % 16)) (λ x. x % 16) (inr (inr (inr (inr (inr (inr (inr (inr (inl refl))))))))) refl tt (fit_one (low % 16) 16 (omega arith)))
    (λ _. by_pick P (eqb (w / 256) 0x29)
    (good_single w 0x29 (Limit Stop (low % 16)) (λ x. x % 16) (inr (inr (inr (inr (inr (inr (inr (inr (inr (inl refl)))))))))) refl tt (fit_one (low % 16) 16 (omega arith)))
    (λ _. by_pick P (eqb (w / 256) 0x2B)
    (good_single w 0x2B (Mode low) (λ x. x) (inr (inr (inr (inr (inr (inr (inr (inr (inr (inr (inl refl))))))))))) refl tt (fit_one low 256 (omega arith)))
    (λ _. by_pick P (eqb (w / 256) 0x2C)
    (good_single w 0x2C (Stepping Start low) (λ x. x) (inr (inr (inr (inr (inr (inr (inr (inr (inr (inr (inr (inl refl)))))))))))) refl tt (fit_one low 256 (omega arith)))
    (λ _. by_pick P (eqb (w / 256) 0x2D)
    (good_single w 0x2D (Stepping Stop low) (λ x. x) (inr (inr (inr (inr (inr (inr (inr (inr (inr (inr (inr (inr (inl refl))))))))))))) refl tt (fit_one low 256 (omega arith)))
    (λ _. refl)))))))))))))

-- four tests that all pass
four : (p q s t : Bool) → (p && q && s && t) ≡ true → (p ≡ true) × (q ≡ true) × (s ≡ true) × (t ≡ true)
four p q s t e = let a = and_parts (p && q && s) t e in let b = and_parts (p && q) s a.0 in let c = and_parts p q b.0 in (c.0, c.1, b.1, a.1)

-- four words that are a block, of a listed code, read as c
module _ (head a b end : ℕ) (is : is_block head a b end ≡ true) where
  abbrev code : ℕ
  code = head / 256 % 64

  abbrev first : ℕ
  first = a % 256

  abbrev second : ℕ
  second = b % 256

  -- the four words, each as 01 has it
  abbrev Parted : Type 0
  Parted =
      (word 1 code 2 ≡ head) × (word 2 code first ≡ a) × (word 2 code second ≡ b) × (word 3 code (crc_of (first ∷ second ∷ [])) ≡ end)

  parted : Parted
  unfolding is_block
  parted =
      let k = crc_of (first ∷ second ∷ []) in
      let t = four (eqb head (head_word code 2)) (eqb a (data_word code first)) (eqb b (data_word code second)) (eqb end (end_word code k)) is in
      let p : head ≡ head_word code 2 = eqb-true head (head_word code 2) t.0 in
      let q : a ≡ data_word code first = eqb-true a (data_word code first) t.1 in
      let s : b ≡ data_word code second = eqb-true b (data_word code second) t.2 in
      let u : end ≡ end_word code k = eqb-true end (end_word code k) t.3 in
      (omega (arith, p), omega (arith, q), omega (arith, s), omega (arith, u))

  -- the block of the listed code k, read as c
  module _ (k : ℕ) (c : Command) (f g : ℕ → ℕ) (listed : OneOf blocks k) (words : words_of c ≡ block k (f first) (g second))
      (tf : T (all_below (λ x. eqb (f x) (bit_and x (named_bits2 k).0)) 0x100)) (tg : T (all_below (λ x. eqb (g x) (bit_and x (named_bits2 k).1)) 0x100)) (fit : fits c ≡ true) where
    good-block : eqb code k ≡ true → Good (head ∷ a ∷ b ∷ end ∷ []) (Ok c)
    good-block e =
        let h : code ≡ k = eqb-true code k e in
        let m = masked f (named_bits2 k).0 tf first (omega arith) in
        let n = masked g (named_bits2 k).1 tg second (omega arith) in (
          words ∙ ap (λ (x : ℕ). block k x (g second)) m ∙ ap (block k (bit_and first (named_bits2 k).0)) n
              ∙ ap (λ (x : ℕ). block x (bit_and first (named_bits2 x).0) (bit_and second (named_bits2 x).1)) (sym h),
          fit,
          inr (
              subst (λ (x : ℕ). OneBlock (x ∷ a ∷ b ∷ end ∷ [])) parted.0 (
              subst (λ (x : ℕ). OneBlock (word 1 code 2 ∷ x ∷ b ∷ end ∷ [])) parted.1 (
              subst (λ (x : ℕ). OneBlock (word 1 code 2 ∷ word 2 code first ∷ x ∷ end ∷ [])) parted.2 (
              subst (λ (x : ℕ). OneBlock (word 1 code 2 ∷ word 2 code first ∷ word 2 code second ∷ x ∷ [])) parted.3 (
              whole code first second (subst (OneOf blocks) (sym h) listed) (omega arith) (omega arith)))))),
        )

read_four : (head a b end : ℕ) → Good (head ∷ a ∷ b ∷ end ∷ []) (four_meant head a b end)
unfolding block_meant
read_four head a b end =
    let code = head / 256 % 64 in
    let x = a % 256 in
    let y = b % 256 in
    let P = Good (head ∷ a ∷ b ∷ end ∷ []) in
    by_pick P (is_block head a b end)
    (λ is. by_pick P (eqb code 0x20)
    (good-block head a b end is 0x20 (Multiplexers x (y % 2)) (λ v. v) (λ v. v % 2) (inl refl) refl tt tt (fit_two x 256 (y % 2) 2 (omega arith) (omega arith)))
    (λ _. by_pick P (eqb code 0x23)
    (good-block head a b end is 0x23 (DirectionWindow (x % 32) (y % 32)) (λ v. v % 32) (λ v. v % 32) (inr (inl refl)) refl tt tt (fit_two (x % 32) 32 (y % 32) 32 (omega arith) (omega arith)))
    (λ _. by_pick P (eqb code 0x24)
    (good-block head a b end is 0x24 (EnergyWindow (x % 32) (y % 32)) (λ v. v % 32) (λ v. v % 32) (inr (inr (inl refl))) refl tt tt (fit_two (x % 32) 32 (y % 32) 32 (omega arith) (omega arith)))
    (λ _. refl))))
    (λ _. refl)

good : (ws : List ℕ) → Good ws (read_of ws)
good [] = refl
good (w ∷ []) = read_one w
good (a ∷ b ∷ []) = refl
good (a ∷ b ∷ c ∷ []) = refl
good (head ∷ a ∷ b ∷ end ∷ []) = read_four head a b end
good (a ∷ b ∷ c ∷ d ∷ e ∷ ws) = refl

again : (ws : List ℕ) (c : Command) → read_of ws ≡ Ok c → (words_of c ≡ cleaned ws) × (fits c ≡ true)
again ws c e = let g = subst (Good ws) e (good ws) in (g.0, g.1)

no_other : (ws : List ℕ) (why : Refusal) → read_of ws ≡ Err why → why ≡ NotOne
no_other ws why e = subst (Good ws) e (good ws)

is_none : (ws : List ℕ) → (OneSingle ws → ⊥) → (OneBlock ws → ⊥) → read_of ws ≡ Err NotOne
is_none ws s b = none (read_of ws) refl (good ws)
  where
    none : (m : Meant) → read_of ws ≡ m → Good ws m → read_of ws ≡ Err NotOne
    none (Ok c) e g = absurd (elim g.2 [ inl x ↦ s x | inr y ↦ b y ])
    none (Err why) e g = e ∙ ap Err g

-- words that are one single or one block are read
abbrev Read : Meant → Type 0
Read (Ok c) = Unit {0}
Read (Err why) = ⊥

single_code : (code low : ℕ) → OneOf singles code → Read (single_meant code low)
unfolding single_meant
single_code code low (inl e) = rw e tt
single_code code low (inr (inl e)) = rw e tt
single_code code low (inr (inr (inl e))) = rw e tt
single_code code low (inr (inr (inr (inl e)))) = rw e tt
single_code code low (inr (inr (inr (inr (inl e))))) = rw e tt
single_code code low (inr (inr (inr (inr (inr (inl e)))))) = rw e tt
single_code code low (inr (inr (inr (inr (inr (inr (inl e))))))) = rw e tt
single_code code low (inr (inr (inr (inr (inr (inr (inr (inl e)))))))) = rw e tt
single_code code low (inr (inr (inr (inr (inr (inr (inr (inr (inl e))))))))) = rw e tt
single_code code low (inr (inr (inr (inr (inr (inr (inr (inr (inr (inl e)))))))))) = rw e tt
single_code code low (inr (inr (inr (inr (inr (inr (inr (inr (inr (inr (inl e))))))))))) = rw e tt
single_code code low (inr (inr (inr (inr (inr (inr (inr (inr (inr (inr (inr (inl e)))))))))))) = rw e tt
single_code code low (inr (inr (inr (inr (inr (inr (inr (inr (inr (inr (inr (inr (inl e))))))))))))) = rw e tt
single_code code low (inr (inr (inr (inr (inr (inr (inr (inr (inr (inr (inr (inr (inr (e)))))))))))))) = absurd e

block_code : (code a b : ℕ) → OneOf blocks code → (code < 64) × Read (block_meant code a b)
unfolding block_meant
block_code code a b (inl e) = (omega arith, rw e tt)
block_code code a b (inr (inl e)) = (omega arith, rw e tt)
block_code code a b (inr (inr (inl e))) = (omega arith, rw e tt)
block_code code a b (inr (inr (inr e))) = absurd e

reads_single : (ws : List ℕ) → OneSingle ws → Read (read_of ws)
reads_single ws (alone k low listed h) =
    let e : word 0 k low ≡ single_word k low = omega arith in
    rw e (subst Read (sym (read_single k low h)) (single_code k low listed))

reads_block : (ws : List ℕ) → OneBlock ws → Read (read_of ws)
reads_block ws (whole k a b listed la lb) =
    let h = block_code k a b listed in
    let c = crc_of (a ∷ b ∷ []) in
    let e1 : word 1 k 2 ≡ head_word k 2 = omega arith in
    let e2 : word 2 k a ≡ data_word k a = omega arith in
    let e3 : word 2 k b ≡ data_word k b = omega arith in
    let e4 : word 3 k c ≡ end_word k c = omega arith in
    rw (e1, e2, e3, e4) (subst Read (sym (read_block k a b h.0 la lb)) h.1)

not_one : (ws : List ℕ) → read_of ws ≡ Err NotOne → (OneSingle ws → ⊥) × (OneBlock ws → ⊥)
not_one ws e = (λ s. subst Read e (reads_single ws s), λ b. subst Read e (reads_block ws b))

-- a setting too wide, and none
not_all : (ss : List (ℕ × ℕ)) → Wide ss → all_fit ss ≡ false
not_all [] w = absurd w
not_all (s ∷ ss) (inl h) = rw (le-ltb s.0 (2 ^ s.1) h)
not_all (s ∷ ss) (inr w) = rw (not_all ss w) (and-false (ltb s.0 (2 ^ s.1)))

all_fit_lem : (ss : List (ℕ × ℕ)) → (Wide ss → ⊥) → all_fit ss ≡ true
all_fit_lem [] n = refl
all_fit_lem (s ∷ ss) n =
    split (ltb s.0 (2 ^ s.1)) (λ e. rw (e, all_fit_lem ss (λ w. n (inr w))))
    (λ e. absurd (n (inl (ltb-false s.0 (2 ^ s.1) e))))

wide : (c : Command) (out : List ℕ) → Wide (settings c) → (wrote_of c (length out) ≡ Err TooWide) × (written_of c out ≡ out)
unfolding wrote_of written_of
wide c out w = let e = not_all (settings c) w in (rw e, rw e)

room : (c : Command) (out : List ℕ) → (Wide (settings c) → ⊥) → length out < length (words_of c)
    → (wrote_of c (length out) ≡ Err NoRoom) × (written_of c out ≡ out)
unfolding wrote_of written_of
room c out n h =
    let e = all_fit_lem (settings c) n in
    let f = lt-leb (length (words_of c)) (length out) h in
    (rw (e, f), rw (e, f))

written : (c : Command) (out : List ℕ) → (Wide (settings c) → ⊥) → length (words_of c) ≤ length out
    → (wrote_of c (length out) ≡ Ok (length (words_of c))) × (written_of c out ≡ words_of c ++ drop (length (words_of c)) out)
unfolding wrote_of written_of
written c out n h =
    let e = all_fit_lem (settings c) n in
    let f = le-leb (length (words_of c)) (length out) h in
    (rw (e, f), rw (e, f))

pub laws : WordingLaws
laws =
    record {
      back = back;
      again = again;
      not_one = not_one;
      is_none = is_none;
      no_other = no_other;
      wide = wide;
      room = room;
      written = written;
    }
