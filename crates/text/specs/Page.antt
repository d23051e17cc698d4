-- A text put into a page that the caller lends.
-- Assumes nothing.
use Rattle.std.specs.Prelude.{ℕ, ◌+◌, ◌≡◌, ◌≤◌, List, [], ◌++◌, length, take, drop, leb}
use Rattle.base.specs.Pick.{pick}
use Rattle.text.specs.declared.Page.{Page}

-- A text put into a page at a place, and the place after it.
abbrev pub put : ℕ → List ℕ → List ℕ → List ℕ
put at text page = take at page ++ (text ++ drop (at + length text) page)

pub record Puts (at : ℕ) (text page : List ℕ) (next : ℕ) (filled : List ℕ) : Type 0 where
  pub place : next ≡ at + length text
  pub content : filled ≡ put at text page

-- What is put of a text of at most so many bytes: all of it if the page has room for so many at that place, and otherwise nothing.
unfoldable pub fitting : ℕ → ℕ → List ℕ → List ℕ → List ℕ
fitting most at page text = pick (leb (at + most) (length page)) text []

-- A page gets a text: the bytes that are lent stay the same ones, as many as they were, and the text is put at the page's place, which moves behind it.
pub record Gets (text : List ℕ) (before after : Page) : Type 0 where
  pub same_page : after.bytes.ghost_name ≡ before.bytes.ghost_name
  pub long : length after.bytes.now ≡ length before.bytes.now
  pub puts : Puts before.at text before.bytes.now after.at after.bytes.now

-- The page has so many bytes from its place on.
abbrev pub RoomFor : ℕ → Page → Type 0
RoomFor most page = page.at + most ≤ length page.bytes.now

-- What a page gets of a text of at most so many bytes.
abbrev pub as_fits : ℕ → Page → List ℕ → List ℕ
as_fits most page text = fitting most page.at page.bytes.now text
