-- Numbers that are added to a row in turn: there is room for the next ones, and they join those that were added.
use Rattle.std.proofs.Common.{◌≡◌, ℕ, suc, ◌+◌, ◌-◌, ◌<◌, ◌≤◌, ◌^◌, List, length, refl, ◌∙◌, subst, arith, flat_map}
use Rattle.av_perm.specs.Lists.{counting}
use Rattle.av_perm.specs.Relations.{at}
use Rattle.av_dist.specs.Rows.{how_often, HasRoomFor, Adds}
use Rattle.av_dist.proofs.HowOften.{how_often_more, how_often_first}

-- nothing is added
pub adds_none : (f : ℕ → ℕ) (row : List ℕ) → ((v : ℕ) → v < length row → f v ≡ 0) → Adds f row row
adds_none f row h = record { long = refl; numbers = λ v l. let e = h v l in omega arith }

-- the same is added, and there is room for it
pub adds_same : (f g : ℕ → ℕ) (old new : List ℕ) → ((v : ℕ) → v < length old → f v ≡ g v) → Adds f old new → Adds g old new
adds_same f g old new h a = record { long = a.long; numbers = λ v l. let e = h v l in let x = a.numbers v l in omega arith }

pub room_same : (f g : ℕ → ℕ) (row : List ℕ) → ((v : ℕ) → f v ≡ g v) → HasRoomFor f row → HasRoomFor g row
room_same f g row h r v l = subst (λ n. at row v + n < 2 ^ 128) (h v) (r v l)

-- one after the other
pub adds_both : (f g : ℕ → ℕ) (old now new : List ℕ) → Adds f old now → Adds g now new → Adds (λ v. f v + g v) old new
adds_both f g old now new a b = record {
  long = b.long ∙ a.long;
  numbers = λ v h. let e = a.long in let x = a.numbers v h in let y = b.numbers v (omega arith) in omega arith;
}

-- what is left of the room
pub room_left : (f g h : ℕ → ℕ) (old now : List ℕ) → ((v : ℕ) → f v + g v ≤ h v) → HasRoomFor h old → Adds f old now → HasRoomFor g now
room_left f g h old now most r a v l =
    let e = a.long in
    let x = a.numbers v (omega arith) in
    let y = r v (omega arith) in
    let m = most v in
    omega arith

-- pieces lo, lo + 1, .. of which k were added
piece_room : (piece : ℕ → List ℕ) (lo k n : ℕ) (old now : List ℕ) → k < n → HasRoomFor (how_often (flat_map piece (counting lo n))) old
    → Adds (how_often (flat_map piece (counting lo k))) old now → HasRoomFor (how_often (piece (lo + k))) now
piece_room piece lo k n old now h =
    room_left (how_often (flat_map piece (counting lo k))) (how_often (piece (lo + k))) (how_often (flat_map piece (counting lo n))) old now
    (λ v. let p = how_often_first piece lo (suc k) n v (omega arith) in let q = how_often_more piece lo k v in omega arith)

piece_added : (piece : ℕ → List ℕ) (lo k : ℕ) (old now new : List ℕ) → Adds (how_often (flat_map piece (counting lo k))) old now
    → Adds (how_often (piece (lo + k))) now new → Adds (how_often (flat_map piece (counting lo (suc k)))) old new
piece_added piece lo k old now new a b =
    let f = how_often (flat_map piece (counting lo k)) in
    let g = how_often (piece (lo + k)) in
    adds_same (λ v. f v + g v) (how_often (flat_map piece (counting lo (suc k)))) old new (λ v h. let q = how_often_more piece lo k v in omega arith)
    (adds_both f g old now new a b)

-- the same by the number of the next piece, counted from 0
pub next_room : (piece : ℕ → List ℕ) (k n : ℕ) (old now : List ℕ) → k < n → HasRoomFor (how_often (flat_map piece (counting 0 n))) old
    → Adds (how_often (flat_map piece (counting 0 k))) old now → HasRoomFor (how_often (piece k)) now
next_room piece k n old now h r a =
    let e : 0 + k ≡ k = omega arith in
    subst (λ j. HasRoomFor (how_often (piece j)) now) e (piece_room piece 0 k n old now h r a)

pub next_added : (piece : ℕ → List ℕ) (k : ℕ) (old now new : List ℕ) → Adds (how_often (flat_map piece (counting 0 k))) old now
    → Adds (how_often (piece k)) now new → Adds (how_often (flat_map piece (counting 0 (k + 1)))) old new
next_added piece k old now new a b =
    let e : k ≡ 0 + k = omega arith in
    let s : suc k ≡ k + 1 = omega arith in
    subst (λ j. Adds (how_often (flat_map piece (counting 0 j))) old new) s
    (piece_added piece 0 k old now new a (subst (λ j. Adds (how_often (piece j)) now new) e b))

-- and counted from 1
pub next_room_from_1 : (piece : ℕ → List ℕ) (m n : ℕ) (old now : List ℕ) → 1 ≤ m → m ≤ n → HasRoomFor (how_often (flat_map piece (counting 1 n))) old
    → Adds (how_often (flat_map piece (counting 1 (m - 1)))) old now → HasRoomFor (how_often (piece m)) now
next_room_from_1 piece m n old now least most r a =
    let e : 1 + (m - 1) ≡ m = omega arith in
    subst (λ j. HasRoomFor (how_often (piece j)) now) e (piece_room piece 1 (m - 1) n old now (omega arith) r a)

pub next_added_from_1 : (piece : ℕ → List ℕ) (m : ℕ) (old now new : List ℕ) → 1 ≤ m → Adds (how_often (flat_map piece (counting 1 (m - 1)))) old now
    → Adds (how_often (piece m)) now new → Adds (how_often (flat_map piece (counting 1 (m + 1 - 1)))) old new
next_added_from_1 piece m old now new least a b =
    let e : m ≡ 1 + (m - 1) = omega arith in
    let s : suc (m - 1) ≡ m + 1 - 1 = omega arith in
    subst (λ j. Adds (how_often (flat_map piece (counting 1 j))) old new) s
    (piece_added piece 1 (m - 1) old now new a (subst (λ j. Adds (how_often (piece j)) now new) e b))
