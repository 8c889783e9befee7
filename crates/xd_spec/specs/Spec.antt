-- Specs of workers, as execnet's `XSpec` writes them: parts joined by `//`, each a key, or a key and a value. Texts stand in
-- UTF-8 here.
use Rattle.std.specs.Prelude.{ℕ, ◌==◌, nat_le, nat_lt, Bool, true, false, ◌&&◌, not, List, [], ◌∷◌, ◌++◌, length, Option, Some, None, is_some, option_and_then, option_map, Result, Ok, Err, if◌then◌else◌, codes}
use Rattle.std.specs.List.{after_first, before_first, list_any, position_or_len}
use Rattle.std.specs.Str.{bytes_eq, chars}
use Rattle.xd_link.specs.declared.place.Place.{Place}
use Rattle.xd_link.specs.declared.place.Place.TheVariants.{Popen, Socket}
use Rattle.xd_spec.specs.declared.draft.Draft.{Draft}
use Rattle.xd_spec.specs.declared.fault.SpecFault.{SpecFault}
use Rattle.xd_spec.specs.declared.fault.SpecFault.TheVariants.{BadKey, Twice, Unsupported}
use Rattle.xd_spec.specs.Numbers.{number_in}

-- ---- how a spec is cut

-- a byte in front of the first part
abbrev pub begin_with : ℕ → List (List ℕ) → List (List ℕ)
begin_with b [] = (b ∷ []) ∷ []
begin_with b (part ∷ rest) = (b ∷ part) ∷ rest

-- the parts between each `//`
-- Example: `popen//chdir=a=b` has the parts `popen` and `chdir=a=b`.
abbrev pub spec_parts : List ℕ → List (List ℕ)
spec_parts [] = [] ∷ []
spec_parts (b ∷ []) = (b ∷ []) ∷ []
spec_parts (b ∷ c ∷ rest) = if b == 47 && c == 47 then [] ∷ spec_parts rest else begin_with b (spec_parts (c ∷ rest))

-- the text before the first such byte and that after it
abbrev pub cut_at : ℕ → List ℕ → Option (List ℕ × List ℕ)
cut_at mark text = if nat_lt (position_or_len (λ b. b == mark) text) (length text) then Some (before_first (λ b. b == mark) text, after_first (λ b. b == mark) text) else None

-- the cut of a text that begins with this byte, where its rest is cut so: a mark in the rest stands later
abbrev pub last_cut_with : ℕ → ℕ → List ℕ → Option (List ℕ × List ℕ) → Option (List ℕ × List ℕ)
last_cut_with mark b bs (Some p) = Some (b ∷ p.0, p.1)
last_cut_with mark b bs None = if b == mark then Some ([], bs) else None

-- the text before the last such byte and that after it
abbrev pub last_cut : ℕ → List ℕ → Option (List ℕ × List ℕ)
last_cut mark [] = None
last_cut mark (b ∷ bs) = last_cut_with mark b bs (last_cut mark bs)

-- ---- what a part says

-- a key that no spec may have
abbrev pub is_bad_key : List ℕ → Bool
is_bad_key [] = true
is_bad_key (b ∷ bs) = b == 95

-- a port: one to five digits, and from 1 to 65,535
abbrev pub port_in : List ℕ → Option ℕ
port_in digits = if nat_le (length digits) 5 then option_and_then (λ n. if n == 0 then None else Some n) (number_in 65535 digits) else None

-- a host that is not empty, and its port
abbrev pub with_host : List ℕ → Option ℕ → Option (List ℕ × ℕ)
with_host host port = if length host == 0 then None else option_map (λ n. (chars host, n)) port

-- HOST:PORT, whose host may have a `:` in it, too
abbrev pub address_in : List ℕ → Option (List ℕ × ℕ)
address_in value = option_and_then (λ p. with_host p.0 (port_in p.1)) (last_cut 58 value)

-- a variable of this name is among these
abbrev pub is_set : List ℕ → List (List ℕ × List ℕ) → Bool
is_set name env = list_any (λ v. bytes_eq v.0 name) env

-- what is known so far, with `popen`: it takes no value, and stands at most once
abbrev pub with_popen : Draft → Option (List ℕ) → Result Draft SpecFault
with_popen d (Some value) = Err BadKey
with_popen d None = if d.popen then Err Twice else Ok (record d { popen = true })

-- with the address of `socket`, which stands at most once; without an address it is refused
abbrev pub with_socket : Draft → Option (List ℕ × ℕ) → Result Draft SpecFault
with_socket d None = Err BadKey
with_socket d (Some address) = if is_some d.socket then Err Twice else Ok (record d { socket = Some address })

-- with the folder of `chdir`, which has to have a value and stands at most once
abbrev pub with_folder : Draft → Option (List ℕ) → Result Draft SpecFault
with_folder d None = Err BadKey
with_folder d (Some value) = if is_some d.chdir then Err Twice else Ok (record d { chdir = Some (chars value) })

-- with a variable of `env:NAME`, which has to have a value; each name stands at most once
abbrev pub with_variable : Draft → List ℕ → Option (List ℕ) → Result Draft SpecFault
with_variable d name None = Err BadKey
with_variable d name (Some value) = if is_set (chars name) d.env then Err Twice else Ok (record d { env = d.env ++ (chars name, chars value) ∷ [] })

-- a key of two parts is env:NAME, with a name that is not empty
abbrev pub with_pair : Draft → Option (List ℕ × List ℕ) → Option (List ℕ) → Result Draft SpecFault
with_pair d None value = Err Unsupported
with_pair d (Some key) value = if bytes_eq key.0 (codes "env") && not (length key.1 == 0) then with_variable d key.1 value else Err Unsupported

-- what is known so far, with one part more: its key has to be known, to have a value exactly where it takes one, and
-- not to have stood before; the keys are execnet's, what is refused is a choice of this project
-- BadKey comes first, then Twice, then Unsupported. Example: `popen//popen` is Twice, and `popen//popen=1` BadKey.
abbrev pub with_key : Draft → List ℕ → Option (List ℕ) → Result Draft SpecFault
with_key d key value =
    if is_bad_key key then Err BadKey
    else if bytes_eq key (codes "popen") then with_popen d value
    else if bytes_eq key (codes "socket") then with_socket d (option_and_then address_in value)
    else if bytes_eq key (codes "chdir") then with_folder d value
    else with_pair d (cut_at 58 key) value

-- a key, and its value where it has one
abbrev pub with_cut : Draft → List ℕ → Option (List ℕ × List ℕ) → Result Draft SpecFault
with_cut d part None = with_key d part None
with_cut d part (Some p) = with_key d p.0 (Some p.1)

-- a part is cut at its first `=`
-- Example: `chdir=a=b` is the key `chdir` with the value `a=b`.
abbrev pub with_part : Draft → List ℕ → Result Draft SpecFault
with_part d part = with_cut d part (cut_at 61 part)

-- ---- the whole

-- all parts in order, up to the first that is refused
abbrev pub with_parts : Result Draft SpecFault → List (List ℕ) → Result Draft SpecFault
with_parts (Err fault) ps = Err fault
with_parts (Ok d) [] = Ok d
with_parts (Ok d) (p ∷ ps) = with_parts (with_part d p) ps

-- either a child, or a socket without a folder and variables
-- Example: `socket=h:00007` is port 7 at h, and `chdir=/tmp` is Unsupported.
abbrev pub place : Bool → Option (List ℕ × ℕ) → Option (List ℕ) → List (List ℕ × List ℕ) → Result Place SpecFault
place true None chdir env = Ok (Popen chdir env)
place false (Some address) None [] = Ok (Socket address.0 address.1)
place _ _ _ _ = Err Unsupported

-- the place that all parts name together, or the first fault of one
abbrev pub place_named : Result Draft SpecFault → Result Place SpecFault
place_named (Err fault) = Err fault
place_named (Ok d) = place d.popen d.socket d.chdir d.env

-- what is known before the first part
abbrev pub empty_draft : Draft
empty_draft = record { popen = false; socket = None; chdir = None; env = [] }

-- the place that a spec names, or its first fault
abbrev pub spec_of : List ℕ → Result Place SpecFault
spec_of text = place_named (with_parts (Ok empty_draft) (spec_parts text))
