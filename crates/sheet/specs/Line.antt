-- What a line of a sheet says.
use Rattle.std.specs.Prelude.{◌≡◌, ℕ, ◌-◌, ◌^◌, cond, ◌||◌, List, [], length, Some, None, Ok, Err, vec_items, Option, Result, ◌==◌, slice_index_or, IfSome, MatchOption}
use Rattle.message.specs.declared.request.RequestHead.{RequestHead}
use Rattle.message.specs.Request.{Request}
use Rattle.sheet.specs.declared.fault.Field.{Field}
use Rattle.sheet.specs.declared.fault.Field.TheVariants as field
use Rattle.sheet.specs.declared.fault.Fault.{Fault}
use Rattle.sheet.specs.declared.fault.Fault.TheVariants as fault
use Rattle.sheet.specs.declared.line.Entry.{Entry}
use Rattle.sheet.specs.declared.line.LineError.{LineError}
use Rattle.sheet.specs.declared.line.LineError.TheVariants as error
use Rattle.sheet.specs.declared.numeral.Base.{Base}
use Rattle.sheet.specs.declared.numeral.Base.TheVariants.{Decimal, Hexadecimal}
use Rattle.sheet.specs.Numeral.{number_of, bytes_of}
use Rattle.sheet.specs.Words.{words_of}

-- the next field, read only where this one can be
abbrev pub then_read : {A B : Type 0} → Field → Option A → (A → Result B Field) → Result B Field
then_read f None next = Err f
then_read f (Some a) next = next a

-- opcode, param, size and source: decimal, at most 255
abbrev pub small_of : List ℕ → Option ℕ
small_of word = number_of Decimal 255 word

-- hexadecimal, below 2 ^ 32
abbrev pub address_of : List ℕ → Option ℕ
address_of word = number_of Hexadecimal (2 ^ 32 - 1) word

-- hexadecimal, below 2 ^ 64
abbrev pub mask_of : List ℕ → Option ℕ
mask_of word = number_of Hexadecimal (2 ^ 64 - 1) word

-- a value, or the field at fault in place of another error
abbrev pub blaming : {A E : Type 0} → Field → Result A E → Result A Field
blaming f (Ok a) = Ok a
blaming f (Err e) = Err f

-- the number that a word writes, converted to the field's type, or else the field at fault
abbrev pub ReadsField : {A E : Type 0} → (ℕ → Result A E → Type 0) → Base → List ℕ → Field → Result A Field → Type 0
ReadsField converts base word f r =
    MatchOption (number_of base (2 ^ 64 - 1) word) (r ≡ Err f) (λ n. (t : _) × converts n t × (r ≡ blaming f t))

-- the word at a place, which is empty past the last
abbrev pub word : List (List ℕ) → ℕ → List ℕ
word words i = slice_index_or words i []

-- a head of its fields, or the first of them that is at fault
abbrev pub head_by : (opcode param size source address mask : Option ℕ) → Result RequestHead Field
head_by opcode param size source address mask =
    then_read field.Opcode opcode (λ o. then_read field.Param param (λ p. then_read field.Size size (λ z. then_read field.Source source (λ s. then_read field.Address address (λ a. then_read field.Mask mask (λ m. Ok (record { opcode = o; param = p; size = z; source = s; address = a; mask = m })))))))

-- the head that the first six words write
unfoldable pub head_of : List (List ℕ) → Result RequestHead Field
head_of words =
    head_by
    (small_of (word words 0))
    (small_of (word words 1))
    (small_of (word words 2))
    (small_of (word words 3))
    (address_of (word words 4))
    (mask_of (word words 5))

-- a request of its head and its data, which is judged last
abbrev pub request_by : Result RequestHead Field → Option (List ℕ) → Result Request Field
request_by (Err f) bytes = Err f
request_by (Ok h) bytes = then_read field.Data bytes (λ bs. Ok (record { head = h; bytes = bs }))

-- the request that the words of its head and the word of its data write
unfoldable pub request_of : List (List ℕ) → List ℕ → Result Request Field
request_of words last = request_by (head_of words) (bytes_of last)

-- what a line can say
pub data Reading : Type 0 where
  nothing : Reading
  request : Request → Reading
  unreadable : Fault → Reading

-- a request, or the field at fault, as what its line says
abbrev pub told : Result Request Field → Reading
told (Ok q) = request q
told (Err f) = unreadable (fault.Field f)

-- what words say together: six, or seven with data
unfoldable pub reading : List (List ℕ) → Reading
reading words =
    cond (length words == 0) nothing (
    cond (length words == 6 || length words == 7) (told (request_of words (word words 6))) (unreadable fault.WordCount))

-- what a line says
abbrev pub line_of : List ℕ → Reading
line_of line = reading (words_of line)

-- what an answer without a request says; where memory ran out, nothing
abbrev pub view_error : LineError → Option Reading
view_error (error.Fault why) = Some (unreadable why)
view_error (error.Memory why) = None

-- what an answer with a request says
abbrev pub view_entry : Result Entry LineError → Option Reading
view_entry (Ok entry) = Some (request (record { head = entry.head; bytes = vec_items entry.«data» }))
view_entry (Err why) = view_error why

-- what the answer to a line says
abbrev pub view : Result (Option Entry) LineError → Option Reading
view (Ok None) = Some nothing
view (Ok (Some entry)) = view_entry (Ok entry)
view (Err why) = view_error why

-- an answer says this of its line; one for want of memory says nothing of it
abbrev pub Tells : Result (Option Entry) LineError → Reading → Type 0
Tells answer what = IfSome (view answer) (λ said. said ≡ what)
