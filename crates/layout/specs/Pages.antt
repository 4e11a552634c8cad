-- The page table, of P pages and q blocks: P page words, P signatures, then for each block P links to the next page of the same leaf.
-- A page word is 0 for a page that is not live, else 1 + its class.
-- The sketch table: m symbols a page, a byte each.
use Rattle.std.specs.Prelude.{ℕ, ◌+◌, ◌-◌, ◌*◌, Bool, List, ◌++◌, ltb, get_or, set, take, drop}

-- the limit of document 01 on the capacity
abbrev pub most_pages : ℕ
most_pages = 65535

-- where the links begin, behind the page words and the signatures
abbrev pub links_at : ℕ → ℕ
links_at P = 2 * P

-- where block j's links begin: page p's link is at next_at P j + p
abbrev pub next_at : ℕ → ℕ → ℕ
next_at P j = (2 + j) * P

unfoldable pub is_live : List ℕ → ℕ → Bool
is_live pages p = ltb 0 (get_or pages p 0)

-- the class of a live page
unfoldable pub class_of : List ℕ → ℕ → ℕ
class_of pages p = get_or pages p 0 - 1

-- the signature that is stored for a page
unfoldable pub signature_at : List ℕ → ℕ → ℕ → ℕ
signature_at pages P p = get_or pages (P + p) 0

-- a page's row of the sketch table
unfoldable pub row_of : ℕ → List ℕ → ℕ → List ℕ
row_of m sketches p = take m (drop (p * m) sketches)

-- the words of page p by field: 0 the page word, 1 the signature, 2 + j the link of block j
abbrev pub word_at : ℕ → ℕ → ℕ → ℕ
word_at P k p = k * P + p

-- the sketch table with another row for page p, of m symbols
unfoldable pub with_row : ℕ → List ℕ → ℕ → List ℕ → List ℕ
with_row m sketches p x = take (p * m) sketches ++ x ++ drop (p * m + m) sketches

-- the page table with page p live in class c, with signature s, and with page p not live
unfoldable pub with_page : ℕ → List ℕ → ℕ → ℕ → ℕ → List ℕ
with_page P pages p c s = set (set pages p (1 + c)) (P + p) s

unfoldable pub without_page : List ℕ → ℕ → List ℕ
without_page pages p = set pages p 0
