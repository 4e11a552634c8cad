-- Sketches: distance (source document 000, section II), packing to bytes (section V-B), blocks (document 01).
use Rattle.std.specs.Prelude.{ℕ, zero, suc, ◌+◌, ◌*◌, ◌-◌, ◌/◌, ◌%◌, ◌^◌, min, Bool, cond, not, List, [], ◌∷◌, map, ltb, eqb, length, get_or, take, drop}
use Rattle.meaning.specs.Lists.{all, count, upto}

-- the number of places where two sketches differ
unfoldable pub distance : List ℕ → List ℕ → ℕ
distance [] ys = 0
distance (x ∷ xs) [] = 0
distance (x ∷ xs) (y ∷ ys) = cond (eqb x y) 0 1 + distance xs ys

-- every symbol is below 2^b
unfoldable pub in_range : ℕ → List ℕ → Bool
in_range b xs = all (λ x. ltb x (2 ^ b)) xs

-- every symbol is 0, as on the empty back of a sheet
unfoldable pub blank : List ℕ → Bool
blank xs = all (λ x. eqb x 0) xs

-- z: how many symbols a byte takes
unfoldable pub per_byte : ℕ → ℕ
per_byte b = 8 / b

-- how many bytes n symbols need
unfoldable pub packed_length : ℕ → ℕ → ℕ
packed_length b n = (n + per_byte b - 1) / per_byte b

-- c1 + c2 × 2^b + ..: the first symbol lowest
unfoldable pub pack_byte : ℕ → List ℕ → ℕ
pack_byte b [] = 0
pack_byte b (c ∷ cs) = c + 2 ^ b * pack_byte b cs

-- the first k bytes of the packing; missing symbols are 0
unfoldable pub pack_bytes : ℕ → ℕ → List ℕ → List ℕ
pack_bytes b zero xs = []
pack_bytes b (suc k) xs = pack_byte b (take (per_byte b) xs) ∷ pack_bytes b k (drop (per_byte b) xs)

-- symbols to bytes
unfoldable pub pack : ℕ → List ℕ → List ℕ
pack b xs = pack_bytes b (packed_length b (length xs)) xs

-- the b-bit group i of a byte
unfoldable pub group : ℕ → ℕ → ℕ → ℕ
group b v i = v / 2 ^ (b * i) % 2 ^ b

-- how many symbols byte k of a packing of n symbols holds
unfoldable pub symbols_at : ℕ → ℕ → ℕ → ℕ
symbols_at b n k = min (per_byte b) (n - k * per_byte b)

-- a byte that packing can give at place k of n symbols: its filler and the bits above b × z are 0
unfoldable pub packable : ℕ → ℕ → ℕ → ℕ → Bool
packable b n k v = ltb v (2 ^ (b * symbols_at b n k))

-- each byte is one that packing n symbols can give at its place
unfoldable pub all_packable : ℕ → ℕ → List ℕ → Bool
all_packable b n bs = all (λ k. packable b n k (get_or bs k 0)) (upto (packed_length b n))

-- bytes to n symbols
unfoldable pub unpack : ℕ → ℕ → List ℕ → List ℕ
unpack b n bs = map (λ i. group b (get_or bs (i / per_byte b) 0) (i % per_byte b)) (upto n)

-- how many of the z lowest groups of v are not zero: entry v of row b of the fixed table
unfoldable pub byte_distance : ℕ → ℕ → ℕ
byte_distance b v = count (λ i. not (eqb (group b v i) 0)) (upto (per_byte b))

-- block j of q: the first (m mod q) blocks have one symbol more
unfoldable pub block_length : ℕ → ℕ → ℕ → ℕ
block_length m q j = m / q + cond (ltb j (m % q)) 1 0

unfoldable pub block_start : ℕ → ℕ → ℕ → ℕ
block_start m q j = j * (m / q) + min j (m % q)

unfoldable pub block : ℕ → ℕ → ℕ → List ℕ → List ℕ
block m q j xs = take (block_length m q j) (drop (block_start m q j) xs)
