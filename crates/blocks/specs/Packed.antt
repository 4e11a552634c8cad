-- The packed bytes of a page, from its row of the sketch table S. Each symbol is taken modulo 2^b, so that every table gives bytes.
use Rattle.std.specs.Prelude.{ℕ, zero, suc, ◌+◌, ◌*◌, ◌-◌, ◌%◌, ◌^◌, min, List, get_or}
use Rattle.blocks.specs.declared.Level.{Level}
use Rattle.blocks.specs.declared.Rows.{Rows}

-- the packed byte of n symbols of the table S from a place on, each taken modulo 2^b
unfoldable pub row_byte : ℕ → List ℕ → ℕ → ℕ → ℕ
row_byte b S i zero = 0
row_byte b S i (suc n) = get_or S i 0 % 2 ^ b + 2 ^ b * row_byte b S (suc i) n

-- the byte of page p at a level
unfoldable pub page_byte : List ℕ → Level → ℕ → ℕ
page_byte S v p = row_byte v.bits S (p * v.symbols + v.from) v.count

-- level k of a block: what is left of its symbols, at most a byte's
unfoldable pub level_at : Rows → ℕ → Level
level_at r k = record {
  bits = r.bits;
  symbols = r.symbols;
  from = r.start + min (k * r.per) r.length;
  count = min r.per (r.length - k * r.per);
}
