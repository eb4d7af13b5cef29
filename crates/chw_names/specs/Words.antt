-- Words of a tree, those among them that are to be shown, and the one that stands first in the text.
use Rattle.std.specs.Prelude.{◌≡◌, ℕ, ◌≤◌, Bool, nat_lt, List, [], ◌∷◌, ◌++◌, map, All, Contains, Option, Some, None, if◌then◌else◌}
use Rattle.std.specs.Borrow.{Bor}
use Rattle.std.specs.Option.{option_map}
use Rattle.name_tables.specs.Names.{is_among, with_name}
use Rattle.chw_grammar.specs.declared.word.Word.{Word}

-- the word alone, where it is so, and else no word
abbrev pub when : Bool → Word → List Word
when so word = if so then word ∷ [] else []

abbrev pub bytes_of : Word → List ℕ
bytes_of w = w.bytes

-- the names of words
abbrev pub names_of : List Word → List (List ℕ)
names_of = map bytes_of

-- keys and further ones, each of them added to those before
abbrev pub with_keys : {K : Type 0} → (List K → K → List K) → List K → List K → List K
with_keys with_key known [] = known
with_keys with_key known (k ∷ ks) = with_keys with_key (with_key known k) ks

-- those words whose key is known, also from an earlier one of them
abbrev pub seconds_by : {K : Type 0} → (List K → K → Bool) → (List K → K → List K) → (Word → K) → List K → List Word → List Word
seconds_by is_known with_key key known [] = []
seconds_by is_known with_key key known (w ∷ ws) = when (is_known known (key w)) w ++ seconds_by is_known with_key key (with_key known (key w)) ws

-- these names and further ones, each in the place where it first stands
abbrev pub with_names : List (List ℕ) → List (List ℕ) → List (List ℕ)
with_names = with_keys with_name

-- those words whose name is known or stands earlier among them
abbrev pub seconds : List (List ℕ) → List Word → List Word
seconds = seconds_by is_among with_name bytes_of

-- the word is one of these, and none of them stands before it
pub record IsLeast (words : List Word) (word : Word) : Type 0 where
  pub among : Contains words word
  pub least : All (λ (other : Word). word.at ≤ other.at) words

-- of a word that was met and another one, the one that stands first in the text
abbrev pub sooner : Option Word → Word → Option Word
sooner None word = Some word
sooner (Some met) word = if nat_lt word.at met.at then Some word else Some met

-- of a word that was met and these, the one that stands first in the text
abbrev pub least_of : Option Word → List Word → Option Word
least_of met [] = met
least_of met (w ∷ ws) = least_of (sooner met w) ws

-- of a word that was met and these, the later one is the one that stands first in the text
pub record Meets (met later : Option Word) (words : List Word) : Type 0 where
  pub least : later ≡ least_of met words

-- the word to which the reference is
abbrev pub word_met : Option (Bor Word) → Option Word
word_met = option_map (λ (w : Bor Word). w.now)

-- words are declared after known keys, and those whose key is known by then are met
pub record DeclaresBy (K : Type 0) (is_known : List K → K → Bool) (with_key : List K → K → List K) (key : Word → K) (known after : List K) (met later : Option Word) (words : List Word) : Type 0 where
  pub keys : after ≡ with_keys with_key known (map key words)
  pub least : later ≡ least_of met (seconds_by is_known with_key key known words)

-- words are declared by their names
abbrev pub Declares : List (List ℕ) → List (List ℕ) → Option Word → Option Word → List Word → Type 0
Declares = DeclaresBy (List ℕ) is_among with_name bytes_of
