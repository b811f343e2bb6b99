mod GlobMatch
mod RouteMask
mod OutputNames
