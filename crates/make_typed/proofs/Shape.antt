-- What a description declares that agrees with that of a filter in all but the places of words.
use Rattle.std.specs.Prelude.{◌≡◌, Bool, false, List, [], ◌∷◌, map, codes, refl}
use Rattle.std.proofs.Common.{ap}
use Rattle.chw_grammar.specs.declared.program.Declaration.{Declaration}
use Rattle.chw_grammar.specs.declared.program.Declaration.TheVariants.{Data, Def, Domain}
use Rattle.chw_grammar.specs.declared.program.Tree.{Tree}
use Rattle.chw_grammar.specs.declared.word.Word.{Word}
use Rattle.chw_grammar.specs.Places.{Same, bare_declaration, bare_term, bare_top, bare_type, bare_word}
use Rattle.chw_grammar.specs.TermTree.{Tm}
use Rattle.chw_grammar.specs.TypeTree.{Ty}
use Rattle.std.specs.Prelude.{ℕ}
use Rattle.make_text.specs.MakeTree.{main_term, main_type, make_tree, plus_term, plus_type, word}

-- two domains and two definitions
pub record IsShaped (taps : ℕ) (tree : Tree) : Type 0 where
  pub first : Word
  pub second : Word
  pub adder : Word
  pub adder_type : Ty
  pub adder_term : Tm
  pub main : Word
  pub type : Ty
  pub term : Tm
  pub declarations : tree.declarations ≡ Domain first false ∷ Domain second false ∷ Def adder adder_type adder_term ∷ Def main type term ∷ []
  pub first_is : bare_word first ≡ word (codes "A")
  pub second_is : bare_word second ≡ word (codes "B")
  pub adder_is : bare_word adder ≡ word (codes "plus")
  pub adder_type_is : bare_type adder_type ≡ bare_type plus_type
  pub adder_term_is : bare_term adder_term ≡ bare_term plus_term
  pub main_is : bare_word main ≡ word (codes "main")
  pub type_is : bare_type type ≡ bare_type main_type
  pub term_is : bare_term term ≡ bare_term (main_term taps)
  pub top_is : bare_top tree.top ≡ bare_top (make_tree taps).top

-- the first declaration is of a domain
record BeginsWithDomain (ds rest : List Declaration) (v : Word) (has_reset : Bool) : Type 0 where
  it : Word
  more : List Declaration
  are : ds ≡ Domain it has_reset ∷ more
  is : bare_word it ≡ v
  others : map bare_declaration more ≡ rest

domain_first : (ds rest : List Declaration) (v : Word) (has_reset : Bool) → map bare_declaration ds ≡ Domain v has_reset ∷ rest → BeginsWithDomain ds rest v has_reset
domain_first [] rest v has_reset e = absurd (cc)
domain_first (Domain w b ∷ ds) rest v has_reset e =
    let same : b ≡ has_reset = cc in
    let name : bare_word w ≡ v = cc in
    let later : map bare_declaration ds ≡ rest = cc in
    record { it = w; more = ds; are = ap (λ (reset : Bool). Domain w reset ∷ ds) same; is = name; others = later }
domain_first (Data w ps cs ∷ ds) rest v has_reset e = absurd (cc)
domain_first (Def w t f ∷ ds) rest v has_reset e = absurd (cc)

-- the first declaration is of a definition
record BeginsWithDef (ds rest : List Declaration) (v : Word) (u : Ty) (g : Tm) : Type 0 where
  it : Word
  type : Ty
  term : Tm
  more : List Declaration
  are : ds ≡ Def it type term ∷ more
  is : bare_word it ≡ v
  type_is : bare_type type ≡ u
  term_is : bare_term term ≡ g
  others : map bare_declaration more ≡ rest

def_first : (ds rest : List Declaration) (v : Word) (u : Ty) (g : Tm) → map bare_declaration ds ≡ Def v u g ∷ rest → BeginsWithDef ds rest v u g
def_first [] rest v u g e = absurd (cc)
def_first (Domain w b ∷ ds) rest v u g e = absurd (cc)
def_first (Data w ps cs ∷ ds) rest v u g e = absurd (cc)
def_first (Def w t f ∷ ds) rest v u g e =
    let name : bare_word w ≡ v = cc in
    let type : bare_type t ≡ u = cc in
    let term : bare_term f ≡ g = cc in
    let later : map bare_declaration ds ≡ rest = cc in
    record { it = w; type = t; term = f; more = ds; are = refl; is = name; type_is = type; term_is = term; others = later }

none_left : (ds : List Declaration) → map bare_declaration ds ≡ [] → ds ≡ []
none_left [] e = refl
none_left (d ∷ ds) e = absurd (cc)

-- four declarations, of which each is the first of what is left
all_four : {ds es fs gs hs : List Declaration} {a b c d : Declaration} → ds ≡ a ∷ es → es ≡ b ∷ fs → fs ≡ c ∷ gs → gs ≡ d ∷ hs → hs ≡ []
    → ds ≡ a ∷ b ∷ c ∷ d ∷ []
all_four one two three four ends = cc

pub shaped : (taps : ℕ) (tree : Tree) → Same tree (make_tree taps) → IsShaped taps tree
shaped taps tree same =
    let alike : map bare_declaration tree.declarations ≡ map bare_declaration (make_tree taps).declarations = ap (λ (t : Tree). t.declarations) same in
    let a = domain_first tree.declarations _ _ _ alike in
    let b = domain_first a.more _ _ _ a.others in
    let c = def_first b.more _ _ _ _ b.others in
    let d = def_first c.more _ _ _ _ c.others in
    let ends : d.more ≡ [] = none_left d.more d.others in
    record {
      first = a.it;
      second = b.it;
      adder = c.it;
      adder_type = c.type;
      adder_term = c.term;
      main = d.it;
      type = d.type;
      term = d.term;
      declarations =
          all_four {a = Domain a.it false} {b = Domain b.it false} {c = Def c.it c.type c.term} {d = Def d.it d.type d.term} a.are b.are c.are d.are ends;
      first_is = a.is;
      second_is = b.is;
      adder_is = c.is;
      adder_type_is = c.type_is;
      adder_term_is = c.term_is;
      main_is = d.is;
      type_is = d.type_is;
      term_is = d.term_is;
      top_is = ap (λ (t : Tree). t.top) same;
    }
