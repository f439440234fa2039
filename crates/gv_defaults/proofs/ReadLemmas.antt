-- A file read item by item.
use Rattle.std.proofs.Common.{◌≡◌, ℕ, zero, Bool, true, cond, List, [], take, drop, refl, sym, ap, subst, ◌∙◌, Some, None}
use Rattle.std.proofs.Math.Path.{fun_ext}
use Rattle.std.specs.Prelude.{Option, fold}
use Rattle.std.specs.Option.{unwrap_or}
use Rattle.std.specs.Str.{bytes_eq}
use Rattle.std.specs.FinMap.{get, insert, empty, get-insert, get-empty}
use Rattle.std.specs.Cmp.Lexicographic.{nat_list_cmp_total}
use Rattle.std.proofs.lemmas.Map.Text.{is_eq-slice_cmp}
use Rattle.std.proofs.lemmas.Slice.Eq.{bytes_eq-Decides}
use Rattle.gv_base.specs.ByteMap.{ByteMap}
use Rattle.gv_base.specs.Order.{byte_cmp}
use Rattle.gv_defaults.specs.declared.items.Assigned.{Assigned}
use Rattle.gv_defaults.specs.declared.items.Item.{Item}
use Rattle.gv_defaults.specs.declared.items.Item.TheVariants.{Gap, Assignment as Assigns, Fault}
use Rattle.gv_defaults.specs.Assignments.{Assignment, File, size, with_first, read_on, file_of}
use Rattle.gv_defaults.specs.Items.{lines_after, seen, IsItem}
use Rattle.gv_defaults.specs.LookUp.{text_before}
use Rattle.gv_defaults.specs.Reads.{stands_for, item_len, with_item, Keeps, IsLeft, IsReading}
use Rattle.gv_defaults.specs.Meaning.{meaning_of}
use Rattle.gv_defaults.specs.Settings.{VarMap}
use Rattle.gv_defaults.specs.Values.{Values, value_in, looked_up, with_value, values_of}

-- a look-up behind an insertion
pub got : {X : Type 0} (map : ByteMap X) (name : List ℕ) (x : X) (q : List ℕ) → get (insert map name x) q ≡ cond (bytes_eq q name) (Some x) (get map q)
got map name x q = get-insert nat_list_cmp_total map name x q ∙ ap (λ (b : Bool). cond b (Some x) (get map q)) (is_eq-slice_cmp q name)

pub same_bytes : (x y : List ℕ) → bytes_eq x y ≡ true → x ≡ y
same_bytes x y is = (bytes_eq-Decides x y).0 is

-- a value means the same over the map
same_meaning : (before : VarMap) (map : ByteMap (List ℕ)) (values : Values) (text : List ℕ) → Keeps map values →
    meaning_of (stands_for map before) text ≡ meaning_of (looked_up (text_before (get before)) values) text
same_meaning before map values text keeps =
    ap (λ (look : List ℕ → List ℕ). meaning_of look text) (fun_ext (λ name. ap (λ (o : Option (List ℕ)). unwrap_or o (text_before (get before) name)) (keeps name)))

keeps_more : (before : VarMap) (map : ByteMap (List ℕ)) (values : Values) (a : Assigned) → Keeps map values →
    Keeps (with_item before map (Assigns a)) (with_value (text_before (get before)) values (seen a))
keeps_more before map values a keeps q =
    got map a.name.now (meaning_of (stands_for map before) a.text.now) q
    ∙ ap (λ (v : List ℕ). cond (bytes_eq q a.name.now) (Some v) (get map q)) (same_meaning before map values a.text.now keeps)
    ∙ ap (λ (o : Option (List ℕ)). cond (bytes_eq q a.name.now) (Some (meaning_of (looked_up (text_before (get before)) values) a.text.now)) o) (keeps q)

-- at the front of the file
pub begins : (before : VarMap) (bytes : List ℕ) → IsLeft before bytes empty 1 bytes
begins before bytes = record { so_far = []; keeps = λ name. get-empty byte_cmp name; gives = refl; bad = refl }

-- behind one more item
pub goes_on : (before : VarMap) (bytes : List ℕ) (map : ByteMap (List ℕ)) (line : ℕ) (rest : List ℕ) (item : Item) (n : ℕ) → IsItem rest item → item_len item ≡ Some n →
    IsLeft before bytes map line rest → IsLeft before bytes (with_item before map item) (lines_after line (take n rest)) (drop n rest)
goes_on before bytes map line rest (Gap len) n is long left =
    let same : len ≡ n = cc in
    let reads : read_on line zero rest ≡ read_on (lines_after line (take n rest)) zero (drop n rest) =
    subst (λ (k : ℕ). read_on line zero rest ≡ read_on (lines_after line (take k rest)) zero (drop k rest)) same (is.reads line) in
    record {
      so_far = left.so_far;
      keeps = left.keeps;
      gives = ap (λ (file : File). fold (with_value (text_before (get before))) left.so_far file.assignments) (sym reads) ∙ left.gives;
      bad = ap (λ (file : File). file.bad) (sym reads) ∙ left.bad;
    }
goes_on before bytes map line rest (Assigns a) n is long left =
    let same : size (seen a) ≡ n = cc in
    let reads : read_on line zero rest ≡ with_first (seen a) (read_on (lines_after line (take n rest)) zero (drop n rest)) =
    subst (λ (k : ℕ). read_on line zero rest ≡ with_first (seen a) (read_on (lines_after line (take k rest)) zero (drop k rest))) same (is.reads line) in
    record {
      so_far = with_value (text_before (get before)) left.so_far (seen a);
      keeps = keeps_more before map left.so_far a left.keeps;
      gives = ap (λ (file : File). fold (with_value (text_before (get before))) left.so_far file.assignments) (sym reads) ∙ left.gives;
      bad = ap (λ (file : File). file.bad) (sym reads) ∙ left.bad;
    }
goes_on before bytes map line rest Fault n is long left = absurd (cc)

-- where nothing more is read
finished : (before : VarMap) (bytes : List ℕ) (map : ByteMap (List ℕ)) (line : ℕ) (rest : List ℕ) (last : File) →
    IsLeft before bytes map line rest → read_on line zero rest ≡ last → last.assignments ≡ [] → IsReading before bytes map last.bad
finished before bytes map line rest last left reads none =
    let all : left.so_far ≡ values_of (text_before (get before)) (file_of bytes).assignments =
    ap (λ (as_ : List Assignment). fold (with_value (text_before (get before))) left.so_far as_) (sym (ap (λ (file : File). file.assignments) reads ∙ none)) ∙ left.gives in
    record {
      keeps = λ name. left.keeps name ∙ ap (λ (values : Values). value_in values name) all;
      fault = ap (λ (file : File). file.bad) (sym reads) ∙ left.bad;
    }

-- at a fault
pub faulty : (before : VarMap) (bytes : List ℕ) (map : ByteMap (List ℕ)) (line : ℕ) (rest : List ℕ) (item : Item) → IsItem rest item → item_len item ≡ None →
    IsLeft before bytes map line rest → IsReading before bytes (with_item before map item) (Some line)
faulty before bytes map line rest (Gap len) is long left = absurd (cc)
faulty before bytes map line rest (Assigns a) is long left = absurd (cc)
faulty before bytes map line rest Fault is long left =
    finished before bytes map line rest (record { assignments = []; bad = Some line }) left (is line) refl

-- at the end
pub ended : (before : VarMap) (bytes : List ℕ) (map : ByteMap (List ℕ)) (line : ℕ) → IsLeft before bytes map line [] → IsReading before bytes map None
ended before bytes map line left =
    finished before bytes map line [] (record { assignments = []; bad = None }) left refl refl
