-- How the lines of writes and of a state are read (this project's choice).
use Rattle.std.specs.Prelude.{ℕ, suc, ◌+◌, ◌/◌, ◌^◌, ◌==◌, ◌||◌, ◌&&◌, List, [], ◌∷◌, length, Option, Some, None, Bool, true, false, if◌then◌else◌, nat_lt, is_some, codes, slice_index_or}
use Rattle.std.specs.Str.{bytes_eq}
use Rattle.rv_reader.specs.Words.{and_then, until, from, behind_in, number_in, below_in, digits_in}

-- ---- values
-- a value of so many bits in the digits that it needs
unfoldable pub value_in : ℕ → List ℕ → Option ℕ
value_in width word = and_then (digits_in ((width + 3) / 4) word) (λ value. if nat_lt value (2 ^ width) then Some value else None)

-- whether a word is such a value, or `later` where that may stand
abbrev pub is_value : Bool → ℕ → List ℕ → Bool
is_value late width word = (late && bytes_eq word (codes "later")) || is_some (value_in width word)

-- ---- writes: what stands behind them
-- a value behind an equals sign
abbrev pub behind_value : Bool → ℕ → List ℕ → Option (List ℕ)
behind_value late width text =
    and_then (behind_in (codes "=") text) (λ rest. if is_value late width (until 32 rest) then Some (from 32 rest) else None)

abbrev pub x_behind : Bool → List ℕ → Option (List ℕ) → Option (List ℕ)
x_behind late text None = Some text
x_behind late text (Some rest) = and_then (below_in 32 (until 61 rest)) (λ n. behind_value late 32 (from 61 rest))

-- at most one x register
unfoldable pub x_in : Bool → List ℕ → Option (List ℕ)
x_in late text = x_behind late text (behind_in (codes " x") text)

abbrev pub custom_named : Bool → ℕ → ℕ → List ℕ → List ℕ → Option ℕ → Option (List ℕ)
custom_named late k width text rest None = None
custom_named late k width text rest (Some n) = if n == k then behind_value late width (from 61 rest) else Some text

abbrev pub custom_behind : Bool → ℕ → ℕ → List ℕ → Option (List ℕ) → Option (List ℕ)
custom_behind late k width text None = Some text
custom_behind late k width text (Some rest) = custom_named late k width text rest (number_in 255 (until 61 rest))

-- the custom register of this number, if it stands next
unfoldable pub custom_in : Bool → ℕ → ℕ → List ℕ → Option (List ℕ)
custom_in late k width text = custom_behind late k width text (behind_in (codes " c") text)

-- the custom registers from this one on, by their widths
unfoldable pub customs_in : Bool → ℕ → List ℕ → List ℕ → Option (List ℕ)
customs_in late k [] text = Some text
customs_in late k (width ∷ widths) text = and_then (custom_in late k width text) (λ rest. customs_in late (suc k) widths rest)

abbrev pub is_stored : List ℕ → Bool
is_stored word = is_some (digits_in 2 word) || (is_some (digits_in 4 word) || is_some (digits_in 8 word))

abbrev pub store_behind : List ℕ → Option (List ℕ) → Option (List ℕ)
store_behind text None = Some text
store_behind text (Some rest) =
    and_then (digits_in 8 (until 61 rest)) (λ at. and_then (behind_in (codes "=") (from 61 rest)) (λ value. if is_stored (until 32 value) then Some (from 32 value) else None))

-- at most one store
unfoldable pub store_in : List ℕ → Option (List ℕ)
store_in text = store_behind text (behind_in (codes " m") text)

-- nothing, or the next pc
unfoldable pub is_next : List ℕ → Bool
is_next [] = true
is_next (b ∷ rest) = is_some (and_then (behind_in (codes " pc=") (b ∷ rest)) (λ word. digits_in 8 word))

-- registers by the widths of the custom ones
unfoldable pub registers_in : Bool → List ℕ → List ℕ → Option (List ℕ)
registers_in late widths text = and_then (x_in late text) (λ rest. customs_in late 0 widths rest)

-- ---- lines
-- a serial behind a front, up to a space
unfoldable pub serial_behind : List ℕ → List ℕ → Option (List ℕ)
serial_behind front text = and_then (behind_in front text) (λ rest. and_then (number_in 4294967295 (until 32 rest)) (λ serial. Some (from 32 rest)))

-- an address or a word behind a front, up to a space
unfoldable pub address_behind : List ℕ → List ℕ → Option (List ℕ)
address_behind front text = and_then (behind_in front text) (λ rest. and_then (digits_in 8 (until 32 rest)) (λ at. Some (from 32 rest)))

-- an address behind a front, which is the whole text
abbrev pub is_address_behind : List ℕ → List ℕ → Bool
is_address_behind front text = is_some (and_then (behind_in front text) (λ word. digits_in 8 word))

unfoldable pub is_retired_line : List ℕ → List ℕ → Bool
is_retired_line widths line =
    is_some
    (and_then (serial_behind (codes "= ") line)
    (λ a. and_then (address_behind (codes " ") a)
    (λ b. and_then (address_behind (codes " ") b)
    (λ c. and_then (registers_in true widths c)
    (λ d. and_then (store_in d)
    (λ e. if is_next e then Some e else None))))))

unfoldable pub is_written_line : List ℕ → List ℕ → Bool
is_written_line widths line =
    is_some
    (and_then (serial_behind (codes "+ ") line)
    (λ a. and_then (registers_in false widths a)
    (λ rest. if length rest == 0 then Some rest else None)))

-- ---- the state
unfoldable pub is_pc_line : List ℕ → Bool
is_pc_line line = is_address_behind (codes "pc ") line

unfoldable pub is_x_line : List ℕ → Bool
is_x_line line = is_some (and_then (behind_in (codes "x") line) (λ a. and_then (below_in 32 (until 32 a)) (λ n. and_then (behind_in (codes " ") (from 32 a)) (λ word. digits_in 8 word))))

unfoldable pub is_custom_line : List ℕ → List ℕ → Bool
is_custom_line widths line =
    is_some
    (and_then (behind_in (codes "c") line)
    (λ a. and_then (below_in (length widths) (until 32 a)) (λ k. and_then (behind_in (codes " ") (from 32 a)) (λ word. value_in (slice_index_or widths k 0) word))))

-- an x register or one of so many custom ones
abbrev pub target_named : ℕ → List ℕ → Option (List ℕ) → Bool
target_named count word None = is_some (and_then (behind_in (codes "c") word) (λ k. below_in count k))
target_named count word (Some n) = is_some (below_in 32 n)

unfoldable pub is_target : ℕ → List ℕ → Bool
is_target count word = target_named count word (behind_in (codes "x") word)

unfoldable pub is_outstanding_line : ℕ → List ℕ → Bool
is_outstanding_line count line =
    is_some (and_then (serial_behind (codes "o ") line) (λ a. and_then (behind_in (codes " ") a) (λ word. if is_target count word then Some word else None)))

unfoldable pub is_memory_line : List ℕ → Bool
is_memory_line line = is_some (and_then (address_behind (codes "m ") line) (λ a. if is_address_behind (codes " ") a then Some a else None))

-- the lines behind that of the pc stand in groups: x registers, custom registers, outstanding writes, memory
abbrev pub group_of_letter : ℕ → ℕ
group_of_letter b = if b == 120 then 1 else if b == 99 then 2 else if b == 111 then 3 else if b == 109 then 4 else 0

abbrev pub group_of : List ℕ → ℕ
group_of [] = 0
group_of (b ∷ rest) = group_of_letter b

abbrev pub is_in_group : List ℕ → ℕ → List ℕ → Bool
is_in_group widths group line =
    if group == 1 then is_x_line line else if group == 2 then is_custom_line widths line else if group == 3 then is_outstanding_line (length widths) line else if group == 4 then is_memory_line line else false
