-- What each call on sketches promises: the number it answers, the value beside it, and its output afterwards.
use Rattle.std.specs.Prelude.{List, ◌≡◌, ℕ}
use Rattle.meaning.specs.SketchCalls.{measure_number, measure_value, pack_number, pack_length, pack_left, unpack_number, unpack_length, unpack_left}

pub record Measured (b m : ℕ) (x y : List ℕ) (n v : ℕ) : Type 0 where
  pub number : n ≡ measure_number b m x y
  pub value : v ≡ measure_value b m x y

pub record Packed (b m : ℕ) (x out : List ℕ) (n v : ℕ) (left : List ℕ) : Type 0 where
  pub number : n ≡ pack_number b m x out
  pub value : v ≡ pack_length b m x out
  pub output : left ≡ pack_left b m x out

pub record Unpacked (b m : ℕ) (bytes out : List ℕ) (n v : ℕ) (left : List ℕ) : Type 0 where
  pub number : n ≡ unpack_number b m bytes out
  pub value : v ≡ unpack_length b m bytes out
  pub output : left ≡ unpack_left b m bytes out
