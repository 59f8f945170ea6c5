pub mod Advised
pub mod TraceLines
