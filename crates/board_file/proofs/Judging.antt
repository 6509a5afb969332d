-- Lists of values that are judged before they are read.
use Rattle.std.proofs.Common.{◌≡◌, ◌≢◌, ℕ, ◌+◌, ◌<◌, ◌≤◌, ◌&&◌, Bool, true, false, List, [], ◌∷◌, length, map, Option, Some, None, option_map, is_some, cond, Result, Ok, Err, refl, sym, ap, ◌∙◌, arith}
use Rattle.std.specs.Prelude.{ℤ, IsSome, ok_or}
use Rattle.std.specs.Option.{option_and_then}
use Rattle.std.specs.List.{list_all}
use Rattle.std.proofs.lemmas.Bool.{eq-eqb, le-leb, lt-leb, ne_eqb}
use Rattle.std.proofs.lemmas.List.{length-map}
use Rattle.toml.specs.Data.{Data, Members, as_integer, as_table, get_member}
use Rattle.toml.specs.View.{view}
use Rattle.toml.specs.declared.value.Value.{Value}
use Rattle.board_read.specs.Lists.{each}
use Rattle.board_file.specs.Judged.{◌>>=◌, each_from, faulted}
use Rattle.board_file.specs.Keys.{word}
use Rattle.board_file.specs.Rows.{says}
use Rattle.board_file.specs.Tables.{table_at, tables_of}
use Rattle.board_file.specs.declared.fault.BoardFault.{BoardFault}
use Rattle.board_file.specs.declared.fault.Key.{Key}
use Rattle.board_file.specs.Values.{all_of, as_many, few, items, listed, numbers_beside, optional, ranged}
use Rattle.board_file.specs.Views.{both, IsArrayOf}
use Rattle.board_file.specs.declared.fault.KeyKind.{KeyKind}
use Rattle.board_file.specs.declared.fault.KeyKind.TheVariants.{WrongType, OutOfRange, BadText}

is_on : {B : Type 0} (o : Option B) (others : Bool) (rest : Option (List B)) → (is_some o && others) ≡ true → (others ≡ true → IsSome rest) → IsSome (option_and_then (λ y. option_map (λ ys. y ∷ ys) rest) o)
is_on None others rest h later = absurd (cc h)
is_on (Some y) others None h later = absurd (cc (later h))
is_on (Some y) others (Some ys) h later = refl

-- something is read of each
pub each_is : {V A B : Type 0} (f : A → Option B) (shown : V → A) (vs : List V) → list_all (λ v. is_some (f (shown v))) vs ≡ true → IsSome (each f (map shown vs))
each_is f shown [] h = refl
each_is f shown (v ∷ vs) h = is_on (f (shown v)) (list_all (λ w. is_some (f (shown w))) vs) (each f (map shown vs)) h (each_is f shown vs)

none_on : {B : Type 0} (o : Option B) (others : Bool) (rest : Option (List B)) → (is_some o && others) ≡ false → (others ≡ false → rest ≡ None) → option_and_then (λ y. option_map (λ ys. y ∷ ys) rest) o ≡ None
none_on None others rest h later = refl
none_on (Some y) others rest h later = ap (option_map (λ ys. y ∷ ys)) (later h)

-- nothing is read of one
pub each_is_none : {V A B : Type 0} (f : A → Option B) (shown : V → A) (vs : List V) → list_all (λ v. is_some (f (shown v))) vs ≡ false → each f (map shown vs) ≡ None
each_is_none f shown [] h = absurd (cc h)
each_is_none f shown (v ∷ vs) h =
    none_on (f (shown v)) (list_all (λ w. is_some (f (shown w))) vs) (each f (map shown vs)) h (each_is_none f shown vs)

nothing_behind : {C : Type 0} (o : Option C) → option_and_then (λ z. option_map (λ zs. z ∷ zs) None) o ≡ None
nothing_behind None = refl
nothing_behind (Some z) = refl

second_on : {B C : Type 0} (g : B → Option C) (y : B) (o : Option (List B)) (rest : Option (List C)) → rest ≡ option_and_then (each g) o
    → option_and_then (λ z. option_map (λ zs. z ∷ zs) rest) (g y) ≡ option_and_then (each g) (option_map (λ ys. y ∷ ys) o)
second_on g y (Some ys) rest is = ap (λ (r : Option (List _)). option_and_then (λ z. option_map (λ zs. z ∷ zs) r) (g y)) is
second_on g y None rest is =
    ap (λ (r : Option (List _)). option_and_then (λ z. option_map (λ zs. z ∷ zs) r) (g y)) is ∙ nothing_behind (g y)

both_on : {B C : Type 0} (g : B → Option C) (o : Option B) (ys : Option (List B)) (rest : Option (List C)) → rest ≡ option_and_then (each g) ys
    → option_and_then (λ z. option_map (λ zs. z ∷ zs) rest) (option_and_then g o) ≡ option_and_then (each g) (option_and_then (λ y. option_map (λ ys. y ∷ ys) ys) o)
both_on g None ys rest is = refl
both_on g (Some y) ys rest is = second_on g y ys rest is

-- both readings of each, one behind the other
each_both : {A B C : Type 0} (g : B → Option C) (f : A → Option B) (xs : List A) → each (both g f) xs ≡ option_and_then (each g) (each f xs)
each_both g f [] = refl
each_both g f (x ∷ xs) = both_on g (f x) (each f xs) (each (both g f) xs) (each_both g f xs)

more_on : {B : Type 0} (o : Option B) (rest : Option (List B)) (n : ℕ) (all : List B) → ((others : List B) → rest ≡ Some others → length others ≡ n) → option_and_then (λ y. option_map (λ ys. y ∷ ys) rest) o ≡ Some all → length all ≡ n + 1
more_on None rest n all later h = absurd (cc h)
more_on (Some y) None n all later h = absurd (cc h)
more_on (Some y) (Some others) n all later h =
    let same : y ∷ others ≡ all = cc in let len = ap length same in omega (arith, later others refl, len)

-- as many are read as there are
pub each_length : {A B : Type 0} (f : A → Option B) (xs : List A) (ys : List B) → each f xs ≡ Some ys → length ys ≡ length xs
each_length f [] ys h = let same : [] ≡ ys = cc in sym (ap length same)
each_length f (x ∷ xs) ys h = let more = more_on (f x) (each f xs) (length xs) ys (each_length f xs) h in omega (arith, more)

all_read : {A : Type 0} (f : Data → Option A) (xs : List Data) (value : Data) → items value ≡ Some xs → all_of f value ≡ each f xs
all_read f xs value is = ap (option_and_then (each f)) is

-- one of them is of another kind
pub listed_wrong : {A B : Type 0} (f : Data → Option A) (g : A → Option B) (fault : KeyKind) (many : ℕ) (value : Data) → all_of f value ≡ None → listed f g fault many value ≡ Err WrongType
listed_wrong f g fault many value none =
    ap (λ (o : Option (List _)). ok_or o WrongType >>= (λ found. few many found >>= (λ counted. ok_or (each g counted) fault))) none

long_on : {A B : Type 0} (f : Data → Option A) (g : A → Option B) (fault : KeyKind) (many : ℕ) (xs : List Data) (value : Data) (o : Option (List A)) → items value ≡ Some xs → each f xs ≡ o → IsSome o → many < length xs
    → listed f g fault many value ≡ Err OutOfRange
long_on f g fault many xs value None is read there far = absurd (cc there)
long_on f g fault many xs value (Some ys) is read there far =
    let len = each_length f xs ys read in
    ap (λ (o : Option (List _)). ok_or o WrongType >>= (λ found. few many found >>= (λ counted. ok_or (each g counted) fault))) (all_read f xs value is ∙ read)
    ∙ ap (λ b. cond b (Ok ys) (Err OutOfRange) >>= (λ counted. ok_or (each g counted) fault)) (lt-leb (length ys) many (omega (arith, far, len)))

-- there are too many of them
pub listed_long : {A B : Type 0} (f : Data → Option A) (g : A → Option B) (fault : KeyKind) (many : ℕ) (xs : List Data) (value : Data) → IsArrayOf f xs value → many < length xs → listed f g fault many value ≡ Err OutOfRange
listed_long f g fault many xs value it far = long_on f g fault many xs value (each f xs) it.is refl it.each far

is_on_few : {A B : Type 0} (f : Data → Option A) (g : A → Option B) (fault : KeyKind) (many : ℕ) (xs : List Data) (value : Data) (o : Option (List A)) → items value ≡ Some xs → each f xs ≡ o → IsSome o → length xs ≤ many
    → listed f g fault many value ≡ ok_or (option_and_then (each g) o) fault
is_on_few f g fault many xs value None is read there near = absurd (cc there)
is_on_few f g fault many xs value (Some ys) is read there near =
    let len = each_length f xs ys read in
    ap (λ (o : Option (List _)). ok_or o WrongType >>= (λ found. few many found >>= (λ counted. ok_or (each g counted) fault))) (all_read f xs value is ∙ read)
    ∙ ap (λ b. cond b (Ok ys) (Err OutOfRange) >>= (λ counted. ok_or (each g counted) fault)) (le-leb (length ys) many (omega (arith, near, len)))

-- there are few enough of them
pub listed_is : {A B : Type 0} (f : Data → Option A) (g : A → Option B) (fault : KeyKind) (many : ℕ) (xs : List Data) (value : Data) → IsArrayOf f xs value → length xs ≤ many → listed f g fault many value ≡ ok_or (each (both g f) xs) fault
listed_is f g fault many xs value it near =
    is_on_few f g fault many xs value (each f xs) it.is refl it.each near
    ∙ ap (λ (o : Option (List _)). ok_or o fault) (sym (each_both g f xs))

-- as many numbers as another list has
pub beside_wrong : (many least most : ℕ) (value : Data) → all_of as_integer value ≡ None → numbers_beside many least most value ≡ Err WrongType
beside_wrong many least most value none =
    ap (λ (o : Option (List ℤ)). ok_or o WrongType >>= (λ found. ok_or (each (ranged least most) found) OutOfRange >>= (λ numbers. as_many many numbers))) none

beside_on : (many least most : ℕ) (xs : List Data) (value : Data) (o : Option (List ℤ)) → items value ≡ Some xs → each as_integer xs ≡ o → IsSome o
    → numbers_beside many least most value ≡ ok_or (option_and_then (each (ranged least most)) o) OutOfRange >>= (λ numbers. as_many many numbers)
beside_on many least most xs value None is read there = absurd (cc there)
beside_on many least most xs value (Some zs) is read there =
    ap (λ (o : Option (List ℤ)). ok_or o WrongType >>= (λ found. ok_or (each (ranged least most) found) OutOfRange >>= (λ numbers. as_many many numbers))) (all_read as_integer xs value is ∙ read)

pub beside_is : (many least most : ℕ) (xs : List Data) (value : Data) → IsArrayOf as_integer xs value
    → numbers_beside many least most value ≡ ok_or (each (both (ranged least most) as_integer) xs) OutOfRange >>= (λ numbers. as_many many numbers)
beside_is many least most xs value it =
    beside_on many least most xs value (each as_integer xs) it.is refl it.each
    ∙ ap (λ (o : Option (List ℕ)). ok_or o OutOfRange >>= (λ numbers. as_many many numbers)) (sym (each_both (ranged least most) as_integer xs))

tables_on : (key : Key) (n many : ℕ) (o : Option Members) (others : Bool) (rest : Result (List Members) BoardFault) → (is_some o && others) ≡ true → (others ≡ true → (ts : List Members) × (rest ≡ Ok ts) × (length ts ≡ many))
    → (ts : List Members) × (faulted key n (ok_or o WrongType) >>= (λ t. rest >>= (λ ts. Ok (t ∷ ts))) ≡ Ok ts) × (length ts ≡ many + 1)
tables_on key n many None others rest h later = absurd (cc h)
tables_on key n many (Some t) others rest h later =
    let it = later h in (t ∷ it.0, ap (λ (r : Result (List Members) BoardFault). r >>= (λ ts. Ok (t ∷ ts))) it.1, let len = it.2 in omega (arith, len))

-- where each is a table, as many tables are found
pub all_tables : (key : Key) (n : ℕ) (vs : List Value) → list_all (λ v. is_some (as_table (view v))) vs ≡ true → (ts : List Members) × (each_from (table_at key) n (map view vs) ≡ Ok ts) × (length ts ≡ length vs)
all_tables key n [] h = ([], refl, refl)
all_tables key n (v ∷ vs) h =
    let it =
    tables_on key n (length vs) (as_table (view v)) (list_all (λ w. is_some (as_table (view w))) vs) (each_from (table_at key) (n + 1) (map view vs)) h (all_tables key (n + 1) vs) in
    (it.0, it.1, let len = it.2 in omega (arith, len))

-- there are too many tables
pub tables_long : (key : Key) (value : Data) (vs : List Value) → items value ≡ Some (map view vs) → list_all (λ v. is_some (as_table (view v))) vs ≡ true → 64 < length vs
    → tables_of key (Some value) ≡ Err (record { key = key; entry = 0; kind = OutOfRange })
tables_long key value vs is all far =
    let it = all_tables key 0 vs all in
    let len = it.2 in
    ap (λ (o : Option (List Data)). faulted key 0 (ok_or o WrongType) >>= (λ entries. each_from (table_at key) 0 entries >>= (λ tables. faulted key 0 (few 64 tables)))) is
    ∙ ap (λ (r : Result (List Members) BoardFault). r >>= (λ tables. faulted key 0 (few 64 tables))) it.1
    ∙ ap (λ b. faulted key 0 (cond b (Ok it.0) (Err OutOfRange))) (lt-leb (length it.0) 64 (omega (arith, far, len)))

-- a key that is there says what its value does
pub said_by : {A : Type 0} (key : Key) (entry : ℕ) (default : A) (judge : Data → Result A KeyKind) (table : Members) (value : Data) (judged : Result A KeyKind) → Some value ≡ get_member (word key) table → judge value ≡ judged
    → says key (optional default judge) entry table ≡ faulted key entry judged
said_by key entry default judge table value judged there is =
    ap (λ (o : Option Data). faulted key entry (optional default judge o)) (sym there) ∙ ap (faulted key entry) is

-- the list is read
pub listed_read : {A B : Type 0} (f : Data → Option A) (g : A → Option B) (fault : KeyKind) (many : ℕ) (xs : List Data) (value : Data) (o : Option (List B)) → IsArrayOf f xs value → length xs ≤ many → o ≡ each (both g f) xs
    → listed f g fault many value ≡ ok_or o fault
listed_read f g fault many xs value o it near is = listed_is f g fault many xs value it near ∙ ap (λ (o : Option (List _)). ok_or o fault) (sym is)

-- one number is out of its range
pub beside_none : (many least most : ℕ) (xs : List Data) (value : Data) → IsArrayOf as_integer xs value → each (both (ranged least most) as_integer) xs ≡ None → numbers_beside many least most value ≡ Err OutOfRange
beside_none many least most xs value it none =
    beside_is many least most xs value it ∙ ap (λ (o : Option (List ℕ)). ok_or o OutOfRange >>= (λ numbers. as_many many numbers)) none

-- a number of another range
pub beside_far : (many least most : ℕ) (vs : List Value) (value : Data) → IsArrayOf as_integer (map view vs) value → list_all (λ v. is_some (both (ranged least most) as_integer (view v))) vs ≡ false
    → numbers_beside many least most value ≡ Err OutOfRange
beside_far many least most vs value it some =
    beside_none many least most (map view vs) value it (each_is_none (both (ranged least most) as_integer) view vs some)

uneven_on : (many least most : ℕ) (xs : List Data) (value : Data) (o : Option (List ℕ)) → IsArrayOf as_integer xs value → each (both (ranged least most) as_integer) xs ≡ o → IsSome o → length xs ≢ many
    → numbers_beside many least most value ≡ Err BadText
uneven_on many least most xs value None it read there not = absurd (cc there)
uneven_on many least most xs value (Some ns) it read there not =
    let len = each_length (both (ranged least most) as_integer) xs ns read in
    beside_is many least most xs value it
    ∙ ap (λ (o : Option (List ℕ)). ok_or o OutOfRange >>= (λ numbers. as_many many numbers)) read
    ∙ ap (λ b. cond b (Ok ns) (Err BadText)) (ne_eqb (length ns) many (λ same. not (sym len ∙ same)))

-- another number of them
pub beside_uneven : (many least most : ℕ) (vs : List Value) (value : Data) → IsArrayOf as_integer (map view vs) value → list_all (λ v. is_some (both (ranged least most) as_integer (view v))) vs ≡ true → length vs ≢ many
    → numbers_beside many least most value ≡ Err BadText
beside_uneven many least most vs value it all not =
    let len : length (map view vs) ≡ length vs = rw length-map refl in
    uneven_on many least most (map view vs) value (each (both (ranged least most) as_integer) (map view vs)) it refl (each_is (both (ranged least most) as_integer) view vs all) (λ same. not (sym len ∙ same))

-- as many of them
pub beside_read : (many least most : ℕ) (xs : List Data) (value : Data) (ns : List ℕ) → IsArrayOf as_integer xs value → Some ns ≡ each (both (ranged least most) as_integer) xs → length xs ≡ many → numbers_beside many least most value ≡ Ok ns
beside_read many least most xs value ns it is same =
    let len = each_length (both (ranged least most) as_integer) xs ns (sym is) in
    beside_is many least most xs value it
    ∙ ap (λ (o : Option (List ℕ)). ok_or o OutOfRange >>= (λ numbers. as_many many numbers)) (sym is)
    ∙ ap (λ b. cond b (Ok ns) (Err BadText)) (eq-eqb (length ns) many (len ∙ same))
