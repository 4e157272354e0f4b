-- What links stand for.
use Rattle.std.specs.Prelude.{◌≡◌, ◌⊎◌, ℕ, ◌<◌, List, [], ◌∷◌, length, slice_get, slice_index_or, Option, Some, None}
use Rattle.av_perm.specs.Members.{In}
use Rattle.av_sys.specs.declared.terms.Term.{Term}
use Rattle.av_sys.specs.declared.terms.Term.TheVariants.{Point, Node}
use Rattle.av_sys.specs.declared.terms.System.{System}
use Rattle.av_sys.specs.Terms.{terms_at, term_at}
use Rattle.av_count.specs.declared.links.Rest.{Rest}
use Rattle.av_count.specs.declared.links.Rest.TheVariants.{Last, More}
use Rattle.av_count.specs.declared.links.Link.{Link}

-- a rest stands for these children
abbrev pub IsRest : List Link → List ℕ → Rest → Type 0
IsRest links [] r = ⊥
IsRest links (c ∷ cs) (Last e) = (e ≡ c) × (cs ≡ [])
IsRest links (c ∷ cs) (More i) = (l : Link) × (slice_get links i ≡ Some l) × (l.first ≡ c) × IsRest links cs l.rest

-- a link stands for these children: a first one, and others
abbrev pub IsLinkOf : List Link → List ℕ → Link → Type 0
IsLinkOf links [] l = ⊥
IsLinkOf links (c ∷ cs) l = (l.first ≡ c) × IsRest links cs l.rest

-- each is the number of one of so many equations
abbrev pub AreNumbers : ℕ → List ℕ → Type 0
AreNumbers equations cs = (c : ℕ) → In c cs → c < equations

-- each link stands for some children, which are equations
abbrev pub AreLinks : ℕ → List Link → Type 0
AreLinks equations links = (i : ℕ) (l : Link) → slice_get links i ≡ Some l → (cs : List ℕ) × AreNumbers equations cs × IsLinkOf links cs l

-- each link keeps its number
abbrev pub Keeps : List Link → List Link → Type 0
Keeps old new = (i : ℕ) (l : Link) → slice_get old i ≡ Some l → slice_get new i ≡ Some l

-- the link has this number now, and no other joined
pub record Joins (old new : List Link) (link : Link) (i : ℕ) : Type 0 where
  pub kept : Keeps old new
  pub stored : slice_get new i ≡ Some link
  pub only : (j : ℕ) (l : Link) → slice_get new j ≡ Some l → (l ≡ link) ⊎ (slice_get old j ≡ Some l)

-- links joined so that the rest stands for these children
pub record AddsRest (old new : List Link) (cs : List ℕ) (r : Rest) : Type 0 where
  pub kept : Keeps old new
  pub rest : IsRest new cs r
  pub links : (equations : ℕ) → AreNumbers equations cs → AreLinks equations old → AreLinks equations new

-- or the link does
pub record AddsNode (old new : List Link) (cs : List ℕ) (l : Link) : Type 0 where
  pub kept : Keeps old new
  pub node : IsLinkOf new cs l
  pub links : (equations : ℕ) → AreNumbers equations cs → AreLinks equations old → AreLinks equations new

-- a term's children: none of a point, a link of a node
abbrev pub IsHead : List Link → Option Term → Option Link → Type 0
IsHead links (Some Point) None = Unit {0}
IsHead links (Some (Node root children)) (Some l) = IsLinkOf links children l
IsHead links _ _ = ⊥

-- the children of the first s terms of equation u
pub record AreHeads (S : System) (links : List Link) (u s : ℕ) (heads : List (Option Link)) : Type 0 where
  pub long : length heads ≡ s
  pub each : (t : ℕ) → t < s → IsHead links (term_at S u t) (slice_index_or heads t None)

-- the children of all terms of the first s equations
pub record AreNodes (S : System) (links : List Link) (s : ℕ) (nodes : List (List (Option Link))) : Type 0 where
  pub long : length nodes ≡ s
  pub each : (u : ℕ) → u < s → AreHeads S links u (length (terms_at S u)) (slice_index_or nodes u [])
  pub links_stand : AreLinks (length S.equations) links

-- links joined so that this is the term's children
pub record AddsHead (S : System) (u t : ℕ) (old new : List Link) (o : Option Link) : Type 0 where
  pub kept : Keeps old new
  pub head : IsHead new (term_at S u t) o
  pub links : AreLinks (length S.equations) new

-- so for all terms of an equation
pub record AddsHeads (S : System) (u : ℕ) (old new : List Link) (heads : List (Option Link)) : Type 0 where
  pub kept : Keeps old new
  pub listed : AreHeads S new u (length (terms_at S u)) heads
  pub links : AreLinks (length S.equations) new
