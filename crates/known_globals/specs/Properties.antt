-- The known properties of global objects: the lists of oxc_ecmascript 0.156.0, in their order.
use Rattle.std.specs.Prelude.{ℕ, Bool, cond, List, [], ◌∷◌, ◌++◌, map, codes}
use Prim.Native.String.{String}
use Rattle.std.specs.Str.{bytes_eq}
use Rattle.tables.specs.Order.{listed}

-- rows, each with a name and what stands under it
abbrev pub Rows : Type 0 → Type 0
Rows A = List (List ℕ × List A)

-- the row of an object and its names
abbrev pub row : String → List String → List ℕ × List (List ℕ)
row object names = (codes object, map codes names)

-- what stands under the name, in the first row that has it
abbrev pub under : {A : Type 0} → Rows A → List ℕ → List A
under [] name = []
under (r ∷ rows) name = cond (bytes_eq r.0 name) r.1 (under rows name)

unfoldable pub math_constants : List String
math_constants =
    "E" ∷ "LN10" ∷ "LN2" ∷ "LOG10E" ∷ "LOG2E" ∷ "PI" ∷ "SQRT1_2" ∷ "SQRT2" ∷ []

-- the methods of Math without side effects
unfoldable pub pure_math_methods : List String
pure_math_methods =
    "abs" ∷ "acos" ∷ "acosh" ∷ "asin" ∷ "asinh" ∷ "atan" ∷ "atan2" ∷ "atanh" ∷
    "cbrt" ∷ "ceil" ∷ "clz32" ∷ "cos" ∷ "cosh" ∷ "exp" ∷ "expm1" ∷ "floor" ∷
    "fround" ∷ "hypot" ∷ "imul" ∷ "log" ∷ "log10" ∷ "log1p" ∷ "log2" ∷ "max" ∷
    "min" ∷ "pow" ∷ "random" ∷ "round" ∷ "sign" ∷ "sin" ∷ "sinh" ∷ "sqrt" ∷
    "tan" ∷ "tanh" ∷ "trunc" ∷ []

-- the objects, each with its names
unfoldable pub known_properties : Rows (List ℕ)
known_properties =
    row "Math" (math_constants ++ pure_math_methods) ∷
    row "Number" (
    "POSITIVE_INFINITY" ∷ "NEGATIVE_INFINITY" ∷ "EPSILON" ∷ "NaN" ∷
    "MAX_VALUE" ∷ "MIN_VALUE" ∷ "MAX_SAFE_INTEGER" ∷ "MIN_SAFE_INTEGER" ∷ []) ∷
    row "console" (
    "assert" ∷ "clear" ∷ "count" ∷ "countReset" ∷ "debug" ∷ "dir" ∷ "dirxml" ∷
    "error" ∷ "group" ∷ "groupCollapsed" ∷ "groupEnd" ∷ "info" ∷ "log" ∷
    "table" ∷ "time" ∷ "timeEnd" ∷ "timeLog" ∷ "trace" ∷ "warn" ∷ []) ∷
    row "Object" (
    "assign" ∷ "create" ∷ "defineProperties" ∷ "defineProperty" ∷ "entries" ∷
    "freeze" ∷ "fromEntries" ∷ "getOwnPropertyDescriptor" ∷
    "getOwnPropertyDescriptors" ∷ "getOwnPropertyNames" ∷
    "getOwnPropertySymbols" ∷ "getPrototypeOf" ∷ "is" ∷ "isExtensible" ∷
    "isFrozen" ∷ "isSealed" ∷ "keys" ∷ "preventExtensions" ∷ "prototype" ∷
    "seal" ∷ "setPrototypeOf" ∷ "values" ∷ []) ∷
    row "Reflect" (
    "apply" ∷ "construct" ∷ "defineProperty" ∷ "deleteProperty" ∷ "get" ∷
    "getOwnPropertyDescriptor" ∷ "getPrototypeOf" ∷ "has" ∷ "isExtensible" ∷
    "ownKeys" ∷ "preventExtensions" ∷ "set" ∷ "setPrototypeOf" ∷ []) ∷
    row "Symbol" (
    "asyncDispose" ∷ "asyncIterator" ∷ "dispose" ∷ "hasInstance" ∷
    "isConcatSpreadable" ∷ "iterator" ∷ "match" ∷ "matchAll" ∷ "replace" ∷
    "search" ∷ "species" ∷ "split" ∷ "toPrimitive" ∷ "toStringTag" ∷
    "unscopables" ∷ []) ∷
    row "JSON" (
    "parse" ∷ "stringify" ∷ []) ∷
    []

-- whether global.property is known
abbrev pub known_property : List ℕ → List ℕ → Bool
known_property global property = listed (under known_properties global) property

-- the names under Object.prototype
unfoldable pub object_prototype : List String
object_prototype =
    "__defineGetter__" ∷ "__defineSetter__" ∷ "__lookupGetter__" ∷ "__lookupSetter__" ∷
    "hasOwnProperty" ∷ "isPrototypeOf" ∷ "propertyIsEnumerable" ∷ "toLocaleString" ∷
    "toString" ∷ "unwatch" ∷ "valueOf" ∷ "watch" ∷ []

-- the objects, each with the names between and what stands under them
unfoldable pub known_properties_deep : Rows (List ℕ × List (List ℕ))
known_properties_deep = (codes "Object", row "prototype" object_prototype ∷ []) ∷ []

-- whether global.middle.property is known
abbrev pub known_property_deep : List ℕ → List ℕ → List ℕ → Bool
known_property_deep global middle property = listed (under (under known_properties_deep global) middle) property
