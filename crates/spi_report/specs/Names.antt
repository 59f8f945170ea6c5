-- The names of the refusals.
use Rattle.std.specs.Prelude.{ℕ, List, Option, Some, None, codes, if◌then◌else◌, ◌==◌}

-- the name of the refusal with this number
abbrev pub name_of : ℕ → Option (List ℕ)
name_of number =
    (if number == 2 then Some (codes "TooLong") else
    (if number == 10 then Some (codes "NotUtf8") else
    (if number == 11 then Some (codes "BadChar") else
    (if number == 12 then Some (codes "BadNumber") else
    (if number == 13 then Some (codes "NameTooLong") else
    (if number == 20 then Some (codes "Syntax") else
    (if number == 21 then Some (codes "TooDeep") else
    (if number == 30 then Some (codes "UnknownName") else
    (if number == 31 then Some (codes "UnknownType") else
    (if number == 32 then Some (codes "NameTwice") else
    (if number == 33 then Some (codes "TypeTwice") else
    (if number == 34 then Some (codes "MessageTooLarge") else
    (if number == 35 then Some (codes "TypeTooLarge") else
    (if number == 36 then Some (codes "FileTooLarge") else
    (if number == 37 then Some (codes "ScheduleTooLong") else
    (if number == 38 then Some (codes "PartMissing") else
    (if number == 39 then Some (codes "NotOpponent") else
    (if number == 60 then Some (codes "NoPlace") else
    (if number == 61 then Some (codes "NotReady") else
    (if number == 62 then Some (codes "RunMessageTooLarge") else
    (if number == 63 then Some (codes "TooManyPlaces") else
    (if number == 70 then Some (codes "BadPick") else
    (if number == 71 then Some (codes "RunMessageTooLarge") else
    (if number == 72 then Some (codes "TooManyPlaces") else
    (if number == 80 then Some (codes "ListingTooLong") else
    (if number == 100 then Some (codes "UnknownRole") else
    (if number == 101 then Some (codes "RoleTwice") else
    (if number == 102 then Some (codes "LineNotReady") else
    (if number == 103 then Some (codes "NarrationTooLarge") else
    (if number == 104 then Some (codes "NarratedTooLarge") else
    (if number == 110 then Some (codes "TooMuchSent") else
    (if number == 111 then Some (codes "NoName") else
    (if number == 120 then Some (codes "UnknownPart") else
    (if number == 121 then Some (codes "TooManyEdits") else
    (if number == 122 then Some (codes "TooManyShared") else
    (if number == 123 then Some (codes "BenchTooLarge") else
    None))))))))))))))))))))))))))))))))))))
